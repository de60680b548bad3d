use Rattle.std.proofs.Common.{Err, ap}
use Rattle.serde_json.specs.View.{view}
use Rattle.common.proofs.Results.{IfErr-passed}
use Rattle.device_texts.specs.DeviceFile.{IsDeviceFault}
use Rattle.device_texts.proofs.DeviceLaws.{IsDeviceFault-read}
use Rattle.device_texts.proofs.device.DeviceFile.read.Goals as goal

-- The bytes are the text of no value, so they describe no device.
pub returns-in-Err-NotJson-clause-fault : goal.returns-in-Err-NotJson-clause-fault
returns-in-Err-NotJson-clause-fault c = λ said.
    c.in-Err-NotJson.ensures.refused (ap Err c.in-Err-NotJson.field-0-is) said.1.value said.1.json

-- The value spells no fields, so neither do the bytes.
pub returns-in_err-fields-clause-fault : goal.returns-in_err-fields-clause-fault
returns-in_err-fields-clause-fault c =
    IfErr-passed _ _ (IsDeviceFault c.args.bytes.now) c.from_residual.ensures.1
    (IsDeviceFault-read _ _ _ c.in-Ok.ensures.read c.in_err-fields.ensures.fault)

-- The fields are those of the value, and the map is that of their sizes.
pub returns-in-Ok-new-clause-read : goal.returns-in-Ok-new-clause-read
returns-in-Ok-new-clause-read c = (
  c.in_ok-fields.fields,
  record { value = view c.in-Ok.value; json = c.in-Ok.ensures.read; spelled = c.in_ok-fields.ensures.spelled },
  record {
    map = rw (c.device_of.ensures.map, ← c.as_slice.ensures.value) c.in-Ok-new.ensures.made;
    vendor = c.device_of.ensures.vendor;
    class = c.device_of.ensures.class;
    images = c.device_of.ensures.images;
    trial_boots = c.device_of.ensures.trial_boots;
  },
)

-- The fields are those of the value, and their sizes make no map.
pub returns-clause-fault : goal.returns-clause-fault
returns-clause-fault c = (
  c.in_ok-fields.fields,
  record { value = view c.in-Ok.value; json = c.in-Ok.ensures.read; spelled = c.in_ok-fields.ensures.spelled },
  rw (← c.as_slice.ensures.value) c.in-Err-new.ensures.fault,
)
