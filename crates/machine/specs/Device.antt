-- The state of a device, over complete images: what its flash keeps, and what it holds itself.
use Rattle.std.specs.Prelude.{ℕ, Bool, List, Option, None}
use Rattle.common.specs.declared.kind.Kind.{Kind}

-- A request: the bytes of an intact image, or none if they are damaged, and its kind.
pub record Wanted : Type 0 where
  pub bytes : Option (List ℕ)
  pub kind : Kind

-- An open upload: the length of the file, its digest, how it will be requested, the bytes received.
pub record Session : Type 0 where
  pub size : ℕ
  pub digest : List ℕ
  pub kind : Kind
  pub received : List ℕ

-- A set on trial: its images, those confirmed, what ran before, and how many boots are left.
pub record Trial : Type 0 where
  pub set : ℕ
  pub confirmed : ℕ → Bool
  pub old : ℕ → List ℕ
  pub left : ℕ

-- What a device's flash keeps.
pub record DeviceState : Type 0 where
  pub images : ℕ
  -- The bytes of the image that runs, or none if it is damaged.
  pub running : ℕ → Option (List ℕ)
  pub request : ℕ → Option Wanted
  -- The floors of the security counters, eight of them.
  pub floors : List ℕ
  -- The sequence number of the last manifest that was accepted.
  pub sequence : ℕ
  pub trial : Option Trial

-- A device: what its flash keeps, its sessions, and whether it is booted.
pub record Machine : Type 0 where
  pub kept : DeviceState
  pub session : ℕ → Option Session
  pub is_booted : Bool

-- The machine with its sessions closed and with this state kept.
abbrev pub closed : Machine → DeviceState → Machine
closed machine kept = record machine { kept = kept; session = λ i. None }
