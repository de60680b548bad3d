-- Images that run, and for which nothing is requested.
use Rattle.std.specs.Prelude.{List, map}
use Rattle.version_order.specs.declared.version.Version.{Version}
use Rattle.reports.specs.declared.table.Entry.{Entry}
use Rattle.reports.specs.declared.table.Request.TheVariants as request
use Rattle.reports.specs.declared.table.Image.{Image}
use Rattle.reports.specs.declared.table.Table.{Table}
use Rattle.reports.specs.TableReading.{table_of}

-- The row of an image for which nothing is requested. Its own counter is the floor.
abbrev pub running_row : Entry → Image
running_row entry = record { running = entry; request = request.None; floor = entry.counter }

-- The table in which these images run.
abbrev pub running_table : List Entry → Table
running_table entries = table_of (map running_row entries)

-- The version of a row that runs.
abbrev pub version_that_runs : Image → Version
version_that_runs row = row.running.version
