-- What the exit status says about the arguments.
use Rattle.std.proofs.Common.{◌≡◌, ◌≢◌, ◌⊎◌, ◌∙◌, ℕ, Bool, List, Option, Some, None, Result, Ok, Err, ap, arith, false, if◌then◌else◌, inl, inr, option_map, refl, sym, true}
use Rattle.clap.specs.Words.{Text, kind_of}
use Rattle.clap.specs.declared.error.kind.ErrorKind.{ErrorKind}
use Rattle.clap.specs.declared.error.kind.ErrorKind.TheVariants.{ArgumentConflict, InvalidValue}
use Rattle.command_line.specs.Orders.{GiveOrder, writes_to_standard_input}
use Rattle.command_line.specs.Faults.{IsAnswered, IsDeviceFault, IsDeviceRefusal}
use Rattle.command_line.specs.Faults.IsDeviceFault.{misuse, of_clap}
use Rattle.command_line.specs.Status.{AskHelp, EndsWords, is_help}
use Rattle.command_line.specs.declared.device_orders.DeviceOrder.{DeviceOrder}
use Rattle.command_line.specs.declared.orders.Order.TheVariants.{Device}
use Rattle.command_line.specs.declared.error.OrderError.{OrderError}
use Rattle.command_line.specs.declared.error.OrderError.TheVariants.{Usage, NoMemory}
use Rattle.host.specs.declared.answer.Answer.{Answer}
use Rattle.host.specs.declared.answer.Answer.TheVariants.{Done, Refused, Cut}
use Rattle.host.specs.declared.error.Refusal.{Refusal}
use Rattle.host.specs.declared.error.Refusal.TheVariants as no
use Rattle.host.specs.Input.{FileBytes}
use Rattle.host.specs.Status.{Ends, status_of, status_of_refusal}
use Rattle.host.proofs.InputLaws.{KeepsFiles-itself}
use Rattle.device_texts.specs.declared.form.Form.TheVariants as form
use Rattle.device_commands.specs.CoreEnd.{AnswersCore}
use Rattle.device_commands.specs.WordsEnd.{AskNothing, EndsByCut, EndsCore, EndsWith, IsPlain}

-- The status of a refusal is 4 if the file of the flash failed, else 1.
refusal_status : (refusal : Refusal) → (status_of_refusal refusal ≡ 1) ⊎ (status_of_refusal refusal ≡ 4)
refusal_status (no.FlashFile error) = inr refl
refusal_status _ = inl refl

-- The status of a refusal is neither that of a usage fault nor that of a power cut.
not_refused : (refusal : Refusal) (status : ℕ) → status_of_refusal refusal ≡ status → status ≢ 1 → status ≢ 4 → ⊥
not_refused refusal status same not_1 not_4 =
    elim (refusal_status refusal) [ inl one ↦ not_1 (sym same ∙ one) | inr four ↦ not_4 (sym same ∙ four) ]

-- The status of a command is never that of a usage fault.
no_usage : (outcome : Result Answer Refusal) → status_of outcome ≢ 2
no_usage (Ok Done) two = absurd (omega (arith, two))
no_usage (Ok Refused) two = absurd (omega (arith, two))
no_usage (Ok Cut) two = absurd (omega (arith, two))
no_usage (Err refusal) two = not_refused refusal 2 two (λ one. omega (arith, one)) (λ four. omega (arith, four))

-- No command ends with the status of a usage fault.
pub never_usage : (outcome : Result Answer Refusal) (status : ℕ) → Ends outcome status → status ≢ 2
never_usage outcome status (inl same) two = no_usage outcome (sym same ∙ two)
never_usage outcome status (inr one) two = absurd (omega (arith, one, two))

-- Only a run that ends by a power cut has status 3.
cut_status : (outcome : Result Answer Refusal) → status_of outcome ≡ 3 → outcome ≡ Ok Cut
cut_status (Ok Done) three = absurd (omega (arith, three))
cut_status (Ok Refused) three = absurd (omega (arith, three))
cut_status (Ok Cut) three = refl
cut_status (Err refusal) three =
    absurd (not_refused refusal 3 three (λ one. omega (arith, one)) (λ four. omega (arith, four)))

-- A command that ends with 3 was answered by a power cut.
pub only_cut : (outcome : Result Answer Refusal) (status : ℕ) → Ends outcome status → status ≡ 3 → outcome ≡ Ok Cut
only_cut outcome status (inl same) three = cut_status outcome (sym same ∙ three)
only_cut outcome status (inr one) three = absurd (omega (arith, one, three))

-- A wrong use of standard input isn't a request for help.
pub misuse_helps_none : (is_written is_twice : Bool) (kind : ErrorKind)
    → (if is_written then Some InvalidValue else (if is_twice then Some ArgumentConflict else None)) ≡ Some kind
    → is_help kind ≡ true → ⊥
misuse_helps_none true is_twice kind same helps =
    let tests : Some false ≡ Some (is_help kind) = ap (option_map is_help) same in absurd (cc (tests, helps))
misuse_helps_none false true kind same helps =
    let tests : Some false ≡ Some (is_help kind) = ap (option_map is_help) same in absurd (cc (tests, helps))
misuse_helps_none false false kind same helps = absurd (cc same)

-- The status is 0 after help, and 2 after a usage fault.
abbrev pub status_by : Bool → ℕ
status_by helps = if helps then 0 else 2

-- The status of an answer that was written says whether the answer is help.
pub status_helps : (helps : Bool) → status_by helps ≡ 0 → helps ≡ true
status_helps true zero = refl
status_helps false zero = absurd (omega (arith, zero))

pub status_faults : (helps : Bool) → status_by helps ≡ 2 → helps ≡ false
status_faults true two = absurd (omega (arith, two))
status_faults false two = refl

pub status_uncut : (helps : Bool) → status_by helps ≢ 3
status_uncut true three = absurd (omega (arith, three))
status_uncut false three = absurd (omega (arith, three))

-- If a fault was written, and no help, the arguments have a fault.
wrong_status : {T : Type 0} (words : List Text) (Asks : T → Type 0) (kind : ErrorKind) (helps : Bool) (status : ℕ)
    → is_help kind ≡ helps → (is_help kind ≡ true → AskHelp words) → status ≡ status_by helps
    → AskNothing words Asks → (status ≡ 2) ⊎ (status ≡ 1)
wrong_status words Asks kind true status same helped ends nothing = absurd (nothing.no_help (helped same))
wrong_status words Asks kind false status same helped ends nothing = inl ends

-- Status 1, after memory ran out or a write failed, says nothing about the arguments.
ends_with_1 : {T : Type 0} (words : List Text) (Asks : T → Type 0) (IsFault : ErrorKind → Type 0)
    (IsDone IsCut : T → Type 0) (status : ℕ) (file : FileBytes) → status ≡ 1
    → EndsWith words Asks IsFault IsDone IsCut status file file
ends_with_1 words Asks IsFault IsDone IsCut status file one = record {
  done = λ zero. absurd (omega (arith, zero, one));
  usage = λ two. absurd (omega (arith, two, one));
  cut = λ three. absurd (omega (arith, three, one));
  wrong = λ nothing. inr one;
  kept = λ nothing. KeepsFiles-itself file;
}

-- Arguments that give no order end by the answer to them, if help isn't a fault.
pub EndsWith-error : {T : Type 0} (words : List Text) (Asks : T → Type 0) (IsFault : ErrorKind → Type 0)
    (IsDone IsCut : T → Type 0) (error : OrderError) (status : ℕ) (file : FileBytes)
    → ((kind : ErrorKind) → is_help kind ≡ true → IsFault kind → AskHelp words)
    → IsAnswered IsFault error → EndsWords error status → EndsWith words Asks IsFault IsDone IsCut status file file
EndsWith-error words Asks IsFault IsDone IsCut error status file helped refusal (inr one) =
    ends_with_1 words Asks IsFault IsDone IsCut status file one
EndsWith-error words Asks IsFault IsDone IsCut NoMemory status file helped refusal (inl one) =
    ends_with_1 words Asks IsFault IsDone IsCut status file one
EndsWith-error words Asks IsFault IsDone IsCut (Usage answer) status file helped refusal (inl ends) =
    let kind = kind_of answer in
    let asks_help : is_help kind ≡ true → AskHelp words = λ helps. helped kind helps refusal.1 in record {
      done = λ zero. inl (asks_help (status_helps (is_help kind) (sym ends ∙ zero)));
      usage = λ two. record {
        kind = kind;
        fault = refusal.1;
        no_help = status_faults (is_help kind) (sym ends ∙ two);
      };
      cut = λ three. absurd (status_uncut (is_help kind) (sym ends ∙ three));
      wrong = λ nothing. wrong_status words Asks kind (is_help kind) status refl asks_help ends nothing;
      kept = λ nothing. KeepsFiles-itself file;
    }

-- Arguments that give an order end by its answer.
pub EndsWith-order : {T : Type 0} (words : List Text) (Asks : T → Type 0) (IsFault : ErrorKind → Type 0)
    (IsDone IsCut : T → Type 0) (asked : T) (status : ℕ) (file after : FileBytes)
    → Asks asked → (status ≡ 0 → IsDone asked) → status ≢ 2 → (status ≡ 3 → IsCut asked)
    → EndsWith words Asks IsFault IsDone IsCut status file after
EndsWith-order words Asks IsFault IsDone IsCut asked status file after asks done other cut = record {
  done = λ zero. inr (record { asked = asked; asks = asks; holds = done zero });
  usage = λ two. absurd (other two);
  cut = λ three. record { asked = asked; asks = asks; holds = cut three };
  wrong = λ nothing. absurd (nothing.no_order asked asks);
  kept = λ nothing. absurd (nothing.no_order asked asks);
}

-- A fault in arguments that may ask for an order to a device isn't help.
helped : (words : List Text) (kind : ErrorKind) → is_help kind ≡ true → IsDeviceFault words kind → AskHelp words
helped words kind helps (of_clap among) = record { kind = kind; among = among; helps = helps }
helped words kind helps (misuse order taken asks is_misuse) =
    absurd (misuse_helps_none (writes_to_standard_input (Device order)) _ kind is_misuse helps)

-- Arguments that give the core no order end by the answer to them.
pub EndsCore-error : (words : List Text) (error : OrderError) (status : ℕ) (Uses : DeviceOrder → Type 0) (input : Option (List ℕ)) (file : FileBytes)
    (old new : Option (List ℕ)) → IsDeviceRefusal words error → EndsWords error status
    → EndsCore words status Uses input file file old new
EndsCore-error words error status Uses input file old new refusal ends =
    EndsWith-error words _ (IsDeviceFault words) _ _ error status file (helped words) refusal ends

-- An order that the core doesn't have changes nothing.
pub EndsCore-other : (words : List Text) (status : ℕ) (Uses : DeviceOrder → Type 0) (input : Option (List ℕ)) (file : FileBytes)
    (old new : Option (List ℕ)) → Ends (Err no.NotOfCore) status → EndsCore words status Uses input file file old new
EndsCore-other words status Uses input file old new ends =
    ends_with_1 words _ _ _ _ status file (elim ends [ inl same ↦ same | inr same ↦ same ])

-- An order of the core is answered.
pub EndsCore-order : (words : List Text) (order : DeviceOrder) (status : ℕ) (Uses : DeviceOrder → Type 0) (input : Option (List ℕ))
    (file after : FileBytes) (old new : Option (List ℕ)) → GiveOrder words (Device order) → IsPlain words
    → (status ≡ 0 → AnswersCore form.Text Done order input file after old new) → status ≢ 2
    → (status ≡ 3 → EndsByCut order input file after old new) → (status ≡ 0 → Uses order)
    → EndsCore words status Uses input file after old new
EndsCore-order words order status Uses input file after old new given plain answered other ends used =
    EndsWith-order words _ _ _ _ order status file after given (λ zero. (plain, answered zero, used zero)) other
    (λ three. (plain, ends three))
