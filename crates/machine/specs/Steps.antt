-- The steps of the machine: complete ones, interrupted ones, and runs of them.
use Rattle.std.specs.Prelude.{◌≡◌, ◌⊎◌, ℕ, ◌+◌, true, List, [], ◌∷◌, None}
use Rattle.std.specs.Borrow.{Bor}
use Rattle.machine.specs.declared.event.Event.{Event}
use Rattle.machine.specs.declared.event.Event.TheVariants as event
use Rattle.machine.specs.Device.{Machine, Trial}
use Rattle.machine.specs.Piece.{Pieces}
use Rattle.machine.specs.Finish.{FinishRow}
use Rattle.machine.specs.Withdrawal.{Withdraws}
use Rattle.machine.specs.States.{asleep, with_confirmed}
use Rattle.machine.specs.Boots.{Boots, IsBootCut, is_answer, Confirms, IsOnTrial}
use Rattle.machine.specs.Intake.{Setup, Uploads, IsUploadsCut, TakesManifest, TakesText}
use Rattle.machine.specs.declared.reply.Reply.{Reply}
use Rattle.machine.specs.declared.reply.Reply.TheVariants.{Done, Cut}

-- An event of a device, whose bytes are borrowed.
abbrev pub DeviceEvent : Type 0
DeviceEvent = Event (Bor (List ℕ))

-- A complete step, by its event and reply.
abbrev pub Completes : Setup → Machine → DeviceEvent → Reply → Machine → Type 0
Completes setup m (event.Accept bytes) reply next = TakesText setup m bytes.now reply next
Completes setup m (event.Piece i bytes) reply next = Uploads (Pieces m i bytes.now) m reply next
Completes setup m (event.Finish i) reply next = Uploads (FinishRow m i) m reply next
Completes setup m (event.Withdraw i) reply next = Uploads (Withdraws m i) m reply next
Completes setup m (event.Confirm i) reply next = Confirms m i reply next
Completes setup m event.Boot reply next = Boots setup.boots m.kept reply next.kept
    × (next ≡ record { kept = next.kept; session = λ i. None; is_booted = is_answer reply })
Completes setup m event.Reset reply next = (reply ≡ Done) × (next ≡ asleep m.kept)

-- An interrupted step, by its event: the sessions end, and the device isn't booted.
abbrev pub IsCutTo : Setup → Machine → DeviceEvent → Machine → Type 0
IsCutTo setup m (event.Accept bytes) next = IsUploadsCut (TakesManifest setup m bytes.now) m next
IsCutTo setup m (event.Piece i bytes) next = IsUploadsCut (Pieces m i bytes.now) m next
IsCutTo setup m (event.Finish i) next = IsUploadsCut (FinishRow m i) m next
IsCutTo setup m (event.Withdraw i) next = IsUploadsCut (Withdraws m i) m next
IsCutTo setup m (event.Confirm i) next = (m.is_booted ≡ true)
    × ((trial : Trial) × IsOnTrial m.kept i trial × ((next ≡ asleep m.kept)
    ⊎ (next ≡ asleep (with_confirmed m.kept trial i))))
IsCutTo setup m event.Boot next =
    IsBootCut setup.boots m.kept next.kept × (next ≡ asleep next.kept)
IsCutTo setup m event.Reset next = ⊥

-- A step: an interrupted one if the reply is Cut, else a complete one.
abbrev pub IsStep : Setup → Machine → DeviceEvent → Reply → Machine → Type 0
IsStep setup m event Cut next = IsCutTo setup m event next
IsStep setup m event reply next = Completes setup m event reply next

-- A run by steps of one kind: a reply and a step for each event.
abbrev pub IsRunBy : {S : Type 0} → (S → DeviceEvent → Reply → S → Type 0)
    → S → List DeviceEvent → List Reply → S → Type 0
IsRunBy Steps first [] [] last = last ≡ first
IsRunBy Steps first [] (reply ∷ replies) last = ⊥
IsRunBy Steps first (event ∷ events) [] last = ⊥
IsRunBy {S} Steps first (event ∷ events) (reply ∷ replies) last = (next : S)
    × Steps first event reply next × IsRunBy Steps next events replies last

-- A run of the machine: each step is complete or interrupted.
abbrev pub IsRun : Setup → Machine → List DeviceEvent → List Reply → Machine → Type 0
IsRun setup m events replies last = IsRunBy (IsStep setup) m events replies last

-- A run without a power cut: each step is complete.
abbrev pub IsUncutRun : Setup → Machine → List DeviceEvent → List Reply → Machine → Type 0
IsUncutRun setup m events replies last = IsRunBy (Completes setup) m events replies last

-- 1 if the reply is Cut, else 0.
abbrev pub cut_of : Reply → ℕ
cut_of Cut = 1
cut_of other = 0

-- How many replies are Cut.
abbrev pub cuts_in : List Reply → ℕ
cuts_in [] = 0
cuts_in (reply ∷ replies) = cut_of reply + cuts_in replies
