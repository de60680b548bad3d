-- The lines that a run writes for a device's replies: texts, or JSON objects.
use Rattle.std.specs.Prelude.{ℕ, ◌+◌, List, [], ◌∷◌, ◌++◌, codes}
use Rattle.sector_map.specs.declared.error.MapError.{MapError}
use Rattle.serde_json.specs.Data.{Data, Members, no_members, object, string}
use Rattle.machine.specs.declared.reply.Reply.{Reply}
use Rattle.machine.specs.declared.reply.Reply.TheVariants.{Done, Booted, Reverted, TrialAgain, Refused, Cut}
use Rattle.device_texts.specs.AnswerText.{map_refusal_text}
use Rattle.device_texts.specs.Json.{fault_json, json_line, map_json, number_json, set_numbers, with_member, with_notes, with_refused, with_report, with_some}
use Rattle.device_texts.specs.ReplyText.{decision_text, replies_text, reply_text}
use Rattle.device_texts.specs.declared.form.Form.{Form}
use Rattle.device_texts.specs.declared.form.Form.TheVariants.{Text, Json}

-- The word for a reply.
abbrev pub with_word : List ℕ → Members → Members
with_word word members = with_member (codes "reply") (string word) members

-- The images of a set.
abbrev pub with_set : ℕ → Members → Members
with_set set members = with_some (codes "images") (set_numbers set) members

-- The members of a reply.
abbrev pub reply_members : Reply → Members
reply_members Done = with_word (codes "done") no_members
reply_members (Booted table report permanent) =
    with_word (decision_text report permanent) (with_report report no_members)
reply_members (Reverted set) = with_word (codes "reverted") (with_set set no_members)
reply_members (TrialAgain set left) =
    with_word (codes "trial-again")
    (with_set set (with_member (codes "left") (number_json left) no_members))
reply_members (Refused fault) =
    with_word (codes "refused") (with_refused (fault_json fault) no_members)
reply_members Cut = with_word (codes "cut") no_members

-- An object about the event of this number.
abbrev pub event_json : ℕ → Members → Data
event_json n members = object (with_member (codes "event") (number_json n) members)

-- The lines of the reply to the n-th event.
abbrev pub reply_line : Form → ℕ → Reply → List ℕ
reply_line Text n reply = reply_text n reply
reply_line Json n reply = json_line (event_json n (reply_members reply))

-- The line of the notes on that reply, if there are any. A text has none.
abbrev pub note_line : Form → ℕ → List (List ℕ) → List ℕ
note_line Text n notes = []
note_line Json n [] = []
note_line Json n (note ∷ notes) =
    json_line (event_json n (with_notes (note ∷ notes) no_members))

-- The lines of replies to events that are numbered from n on. These are the notes on each of them.
abbrev pub reply_lines : Form → ℕ → List Reply → List (List (List ℕ)) → List ℕ
reply_lines Text n replies notes = replies_text n replies
reply_lines Json n [] notes = []
reply_lines Json n (reply ∷ replies) [] =
    reply_line Json n reply ++ reply_lines Json (n + 1) replies []
reply_lines Json n (reply ∷ replies) (first ∷ notes) =
    (reply_line Json n reply ++ note_line Json n first) ++ reply_lines Json (n + 1) replies notes

-- The line of the notes on the end of a run, after its replies, if there are any.
abbrev pub last_notes : List (List ℕ) → List ℕ
last_notes [] = []
last_notes (note ∷ notes) = json_line (object (with_notes (note ∷ notes) no_members))

-- Why the sizes in a device file make no map.
abbrev pub map_refusal_line : Form → MapError → List ℕ
map_refusal_line Text refused = map_refusal_text refused
map_refusal_line Json refused = json_line (object (with_refused (map_json refused) no_members))
