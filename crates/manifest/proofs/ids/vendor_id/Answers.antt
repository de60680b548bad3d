use Rattle.std.proofs.Common.{◌∙◌, ap}
use Rattle.uuid.specs.Uuid.{namespace_dns}
use Rattle.manifest.specs.Ids.{uuid_of}
use Rattle.manifest.proofs.ids.vendor_id.Goals as goal

pub returns : goal.returns
returns c = c.new_v5.ensures.value ∙ ap (uuid_of namespace_dns) c.as_bytes.ensures.value
