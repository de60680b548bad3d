-- When a flash holds a state of the device without a swap or a trial.
use Rattle.std.specs.Prelude.{◌≡◌, ℕ, ◌<◌, Bool, false, List, Option, Some, None, option_map}
use Rattle.common.specs.Bytes.{Starts}
use Rattle.sector_map.specs.declared.layout.Side.TheVariants.{Primary, Secondary}
use Rattle.trailer.specs.Fields.{Fields, trailer_of}
use Rattle.trailer.specs.Standing.{first_is_set, standing_kind}
use Rattle.common.specs.declared.kind.Kind as request
use Rattle.set_log.specs.declared.state.RecordKind.{RecordKind}
use Rattle.set_log.specs.declared.state.RecordKind.TheVariants.{Steady}
use Rattle.set_log.specs.declared.state.State.{State}
use Rattle.image_reading.specs.declared.desc.Desc.{Desc}
use Rattle.image_reading.specs.Image.{IsIntact}
use Rattle.upload.specs.View.{View}
use Rattle.machine.specs.Device.{DeviceState, Wanted}
use Rattle.machine.specs.Finish.{IsImage}

-- The intact image that bytes begin with, or none.
pub record IsFront (whole : List ℕ) (held : Option (List ℕ)) : Type 0 where
  pub image : (bytes : List ℕ) → held ≡ Some bytes → Starts whole bytes × IsImage bytes
  pub none : held ≡ None → (bytes : List ℕ) (description : Desc) → Starts whole bytes
      → IsIntact bytes description → ⊥

-- The pending request by the fields of a trailer and the bytes of its slot.
abbrev pub told_by : Fields → List ℕ → Option request.Kind
told_by fields slot = standing_kind (trailer_of fields) (first_is_set slot)

-- The pending request for an image.
abbrev pub request_in : View → ℕ → Option request.Kind
request_in w i = told_by (w.trailer i Secondary) (w.slot i Secondary)

-- What is requested by a trailer, with the image that its slot begins with.
pub record IsRequested (fields : Fields) (slot : List ℕ) (wanted : Option Wanted) : Type 0 where
  pub kind : told_by fields slot ≡ option_map (λ w. w.kind) wanted
  pub front : (w : Wanted) → wanted ≡ Some w → IsFront slot w.bytes

-- An image that is in no swap or trial: what runs, and what is requested.
pub record IsImageAt (w : View) (s : DeviceState) (i : ℕ) : Type 0 where
  pub running : IsFront (w.slot i Primary) (s.running i)
  pub request : IsRequested (w.trailer i Secondary) (w.slot i Secondary) (s.request i)

-- The record that the log has of a state, by its kind, set, permanence and boots left.
abbrev pub logged : RecordKind → ℕ → Bool → ℕ → DeviceState → State
logged kind mask permanent left s = record {
  kind = kind;
  mask = mask;
  permanent = permanent;
  left = left;
  sequence = s.sequence;
  floors = s.floors;
}

-- The flash holds a state at rest, without a trial.
pub record IsSteadyAt (w : View) (s : DeviceState) : Type 0 where
  pub trial : s.trial ≡ None
  pub images : w.images ≡ s.images
  pub log : w.log ≡ Some (logged Steady 0 false 0 s)
  pub each : (i : ℕ) → i < s.images → IsImageAt w s i
