-- The answers of the calls of a device.
use Rattle.std.specs.Prelude.{◌≡◌, ◌<◌, ℕ, List}
use Rattle.std.specs.Borrow.{Bor}
use Rattle.reports.specs.ReportText.{report_text}
use Rattle.reports.specs.TableText.{table_text}
use Rattle.manifest.specs.declared.manifest.Manifest.{Manifest}
use Rattle.machine.specs.declared.reply.Reply.{Reply}
use Rattle.machine.specs.declared.reply.Reply.TheVariants.{Booted}
use Rattle.c_interface.specs.DeviceCall.{DeviceCall}
use Rattle.c_interface.specs.DeviceCall.{Accept}
use Rattle.c_interface.specs.declared.saved_state.SavedState.{SavedState}
use Rattle.manifest.specs.declared.rows.ManifestRow.{ManifestRow}
use Rattle.c_interface.specs.declared.cuts.CutRow.{CutRow}
use Rattle.c_interface.specs.Numbers.{MOST_COMPONENTS, TOO_MANY}
use Rattle.c_interface.specs.declared.setup.Setup.{Setup}
use Rattle.c_interface.specs.declared.call_result.CallResult.{CallResult}
use Rattle.c_interface.specs.Calls.{CallsOn, IsRefusedBefore}
use Rattle.manifest.specs.Rows.{IsManifestOf}
use Rattle.c_interface.specs.Texts.{IsPut}
use Rattle.c_interface.specs.CallResult.{IsResultOf, no_result, number_of}

-- The answer of a call: the number of the device's reply, and in the result the number of writes
-- that it made. It has no journal. Or why no call was made: then nothing changed, and the result is
-- all zero.
pub data Answers (setup : Setup) (cuts : List CutRow) (call : DeviceCall) (old : List ℕ)
    (was : SavedState) (new : List ℕ) (is : SavedState) (call_result : CallResult)
    (says : Reply → Type 0) (number : ℕ) : Type 0 where
  Replied : (reply : Reply) → CallsOn setup cuts call old was new is reply call_result.writes
      → IsResultOf reply call_result → call_result.journal_length ≡ 0 → says reply
      → number ≡ number_of reply
      → Answers setup cuts call old was new is call_result says number
  NotCalled : IsRefusedBefore setup cuts old number → new ≡ old → is ≡ was → call_result ≡ no_result
      → Answers setup cuts call old was new is call_result says number

-- The call wrote no texts: their lengths are 0.
abbrev pub HasNoTexts : CallResult → Reply → Type 0
HasNoTexts call_result reply =
    (call_result.table_length ≡ 0) × (call_result.report_length ≡ 0)

-- The answer of a call that accepts a manifest, which may have too many components.
pub data Accepts (setup : Setup) (cuts : List CutRow) (row : ManifestRow) (old : List ℕ)
    (was : SavedState) (new : List ℕ) (is : SavedState) (call_result : CallResult) (number : ℕ)
    : Type 0 where
  Given : (manifest : Bor Manifest) → IsManifestOf row manifest.now
      → Answers setup cuts (Accept manifest) old was new is call_result (HasNoTexts call_result)
      number
      → Accepts setup cuts row old was new is call_result number
  TooMany : MOST_COMPONENTS < row.count → number ≡ TOO_MANY → new ≡ old → is ≡ was
      → call_result ≡ no_result → Accepts setup cuts row old was new is call_result number

-- The texts of a boot that decided. Any other call leaves the two buffers unchanged.
abbrev pub HasTexts : ℕ → ℕ → List ℕ → List ℕ → List ℕ → List ℕ → Reply → Type 0
HasTexts table_length report_length old_rows rows old_lines lines (Booted table report permanent) =
    IsPut (table_text table) table_length old_rows rows
    × IsPut (report_text report) report_length old_lines lines
HasTexts table_length report_length old_rows rows old_lines lines other =
    (rows ≡ old_rows) × (lines ≡ old_lines)
