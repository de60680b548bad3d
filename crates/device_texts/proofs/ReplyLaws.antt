-- The lines of replies that are written one by one.
use Rattle.std.proofs.Common.{◌≡◌, ℕ, zero, suc, ◌+◌, ◌==◌, Bool, false, true≢false, List, [], ◌∷◌, ◌++◌, length, map, refl, sym, ap, ◌∙◌, append-nil, append_assoc, add-zero, arith}
use Rattle.serde_json.specs.Data.{no_members, object}
use Rattle.machine.specs.declared.reply.Reply.{Reply}
use Rattle.device_texts.specs.Json.{json_line, with_notes}
use Rattle.device_texts.specs.ReplyJson.{event_json, last_notes, note_line, reply_line, reply_lines}
use Rattle.device_texts.specs.ReplyText.{replies_text, reply_text}
use Rattle.device_texts.specs.declared.form.Form.{Form}
use Rattle.device_texts.specs.declared.form.Form.TheVariants.{Text, Json}

-- The numbers of replies after others continue those of the others.
pub replies_text-append : (n : ℕ) (first others : List Reply)
    → replies_text n (first ++ others) ≡ replies_text n first ++ replies_text (n + length first) others
replies_text-append n [] others = ap (λ k. replies_text k others) (sym (add-zero n))
replies_text-append n (reply ∷ first) others =
    let same : (n + 1) + length first ≡ n + suc (length first) = omega arith in
    ap (λ text. reply_text n reply ++ text) (replies_text-append (n + 1) first others
    ∙ ap (λ k. replies_text (n + 1) first ++ replies_text k others) same)
    ∙ sym (append_assoc (reply_text n reply) (replies_text (n + 1) first)
    (replies_text (n + length (reply ∷ first)) others))

-- The text of one more reply follows that of the others.
pub replies_text-push : (n : ℕ) (replies : List Reply) (reply : Reply)
    → replies_text n (replies ++ reply ∷ []) ≡ replies_text n replies ++ reply_text (n + length replies) reply
replies_text-push n replies reply =
    replies_text-append n replies (reply ∷ [])
    ∙ ap (λ text. replies_text n replies ++ text) (append-nil (reply_text (n + length replies) reply))

-- Without notes there is no line of notes.
pub note_line-none : (form : Form) (n : ℕ) → note_line form n [] ≡ []
note_line-none Text n = refl
note_line-none Json n = refl

-- No reply has no line.
pub reply_lines-none : (form : Form) (n : ℕ) → reply_lines form n [] [] ≡ []
reply_lines-none Text n = refl
reply_lines-none Json n = refl

-- One reply has its line and that of its notes.
pub reply_lines-one : (form : Form) (n : ℕ) (reply : Reply) (notes : List (List ℕ))
    → reply_lines form n (reply ∷ []) (notes ∷ []) ≡ reply_line form n reply ++ note_line form n notes
reply_lines-one Text n reply notes = refl
reply_lines-one Json n reply notes = append-nil _

-- The lines of one more object follow those of the others.
objects-push : (n : ℕ) (replies : List Reply) (notes : List (List (List ℕ))) (reply : Reply) (note : List (List ℕ))
    → length notes ≡ length replies
    → reply_lines Json n (replies ++ reply ∷ []) (notes ++ note ∷ [])
    ≡ reply_lines Json n replies notes
    ++ (reply_line Json (n + length replies) reply ++ note_line Json (n + length replies) note)
objects-push n [] [] reply note each =
    reply_lines-one Json n reply note
    ∙ ap (λ k. reply_line Json k reply ++ note_line Json k note) (sym (add-zero n))
objects-push n [] (one ∷ notes) reply note each = absurd (omega (arith, each))
objects-push n (first ∷ replies) [] reply note each = absurd (omega (arith, each))
objects-push n (first ∷ replies) (one ∷ notes) reply note each =
    let same : (n + 1) + length replies ≡ n + suc (length replies) = omega arith in
    let begun = reply_line Json n first ++ note_line Json n one in
    ap (λ text. begun ++ text) (objects-push (n + 1) replies notes reply note (omega (arith, each))
    ∙ ap (λ k. reply_lines Json (n + 1) replies notes ++ (reply_line Json k reply ++ note_line Json k note)) same)
    ∙ sym (append_assoc begun (reply_lines Json (n + 1) replies notes) _)

-- The lines of one more reply follow those of the others.
pub reply_lines-push : (form : Form) (n : ℕ) (replies : List Reply) (notes : List (List (List ℕ))) (reply : Reply)
    (note : List (List ℕ)) → length notes ≡ length replies
    → reply_lines form n (replies ++ reply ∷ []) (notes ++ note ∷ [])
    ≡ reply_lines form n replies notes
    ++ (reply_line form (n + length replies) reply ++ note_line form (n + length replies) note)
reply_lines-push Text n replies notes reply note each =
    replies_text-push n replies reply
    ∙ ap (λ text. replies_text n replies ++ text) (sym (append-nil (reply_text (n + length replies) reply)))
reply_lines-push Json n replies notes reply note each = objects-push n replies notes reply note each

-- Some notes have a line.
pub note_line-some : {A : Type 0} (text : A → List ℕ) (n : ℕ) (notes : List A) → (length notes == 0) ≡ false
    → note_line Json n (map text notes)
    ≡ json_line (event_json n (with_notes (map text notes) no_members))
note_line-some text n [] some = absurd (true≢false some)
note_line-some text n (note ∷ notes) some = refl

pub last_notes-some : {A : Type 0} (text : A → List ℕ) (notes : List A) → (length notes == 0) ≡ false
    → last_notes (map text notes) ≡ json_line (object (with_notes (map text notes) no_members))
last_notes-some text [] some = absurd (true≢false some)
last_notes-some text (note ∷ notes) some = refl
