-- What the exit status says about the arguments.
use Rattle.std.proofs.Common.{◌≡◌, ◌≢◌, ◌≤◌, ℕ, Bool, List, [], ◌∷◌, Option, ap, arith, false, inl, inr, length, map, refl, true}
use Rattle.clap.specs.Words.{Text}
use Rattle.clap.specs.declared.error.kind.ErrorKind.{ErrorKind}
use Rattle.command_line.specs.Status.{AskHelp, EndsWords, is_help}
use Rattle.command_line.specs.declared.error.OrderError.{OrderError}
use Rattle.command_line.specs.OrderFaults.{IsFault, IsRefusal}
use Rattle.command_line.specs.OrderFaults.IsFault.{misuse, no_order, of_clap}
use Rattle.command_line.specs.Orders.{writes_to_standard_input}
use Rattle.command_line.specs.declared.orders.Order.{Order}
use Rattle.host.specs.declared.answer.Answer.TheVariants.{Done}
use Rattle.host.specs.Input.{FileBytes}
use Rattle.device_commands.proofs.WordsLaws.{EndsWith-error, EndsWith-order, misuse_helps_none}
use Rattle.command_line.specs.Given.{is_json}
use Rattle.boot_cli.specs.JsonEnd.{AnswersOrder, form_of}
use Rattle.boot_cli.specs.WordsEnd.{AskFor, EndsByCut, EndsProgram}

-- A fault that the program itself finds isn't a request for help.
no_order_helps_none : (kind other : ErrorKind) → is_help other ≡ false → kind ≡ other → is_help kind ≡ true → ⊥
no_order_helps_none kind other no_help same helps = absurd (cc (ap is_help same, no_help, helps))

helped : (words : List Text) (kind : ErrorKind) → is_help kind ≡ true → IsFault words kind → AskHelp words
helped words kind helps (of_clap among) = record { kind = kind; among = among; helps = helps }
helped words kind helps (no_order taken none (inl same)) = absurd (no_order_helps_none kind _ refl same helps)
helped words kind helps (no_order taken none (inr (inl same))) = absurd (no_order_helps_none kind _ refl same helps)
helped words kind helps (no_order taken none (inr (inr (inl same)))) = absurd (no_order_helps_none kind _ refl same helps)
helped words kind helps (no_order taken none (inr (inr (inr same)))) = absurd (no_order_helps_none kind _ refl same helps)
helped words kind helps (misuse order taken asks is_misuse) =
    absurd (misuse_helps_none (writes_to_standard_input order) _ kind is_misuse helps)

-- The program's own name alone asks for no JSON.
pub no_json : {S : Type 0} (text : S → Text) (words : List S) → length words ≤ 1 → false ≡ is_json (map text words)
no_json text [] few = refl
no_json text (name ∷ []) few = refl
no_json text (name ∷ other ∷ words) few = absurd (omega (arith, few))

-- Arguments that give no order end by the answer to them.
pub EndsProgram-error : (words : List Text) (error : OrderError) (status : ℕ) (Uses : Order → Type 0) (input : Option (List ℕ)) (file : FileBytes)
    (old new : Option (List ℕ)) → IsRefusal words error → EndsWords error status
    → EndsProgram words status Uses input file file old new
EndsProgram-error words error status Uses input file old new refusal ends =
    EndsWith-error words _ (IsFault words) _ _ error status file (helped words) refusal ends

-- Arguments that ask for an order end by its answer.
pub EndsProgram-order : (words : List Text) (asked : Order) (wanted : Bool) (status : ℕ) (Uses : Order → Type 0)
    (input : Option (List ℕ)) (file after : FileBytes) (old new : Option (List ℕ)) → AskFor words asked
    → wanted ≡ is_json words
    → (status ≡ 0 → AnswersOrder (form_of wanted) Done asked input file after old new) → status ≢ 2
    → (status ≡ 3 → EndsByCut wanted asked input file after old new) → (status ≡ 0 → Uses asked)
    → EndsProgram words status Uses input file after old new
EndsProgram-order words asked wanted status Uses input file after old new asks same answered other ends used =
    EndsWith-order words _ _ _ _ asked status file after asks
    (λ zero. (rw same at (answered zero), used zero)) other
    (λ three. rw same at (ends three))
