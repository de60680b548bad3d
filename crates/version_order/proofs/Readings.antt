-- What the result of reading a text implies for the text.
use Rattle.std.proofs.Common.{◌≡◌, ℕ, List, Result, Ok, Err, IfOk, OnErr, sym, ap, ◌∙◌}
use Rattle.std.specs.Result.{result_ok}
use Rattle.std.proofs.lemmas.Option.{none-some, same_Some}
use Rattle.version_order.specs.VersionText.{IsVersionText, version_of}
use Rattle.version_order.proofs.VersionTexts.{version_of-text, version_of-spelled}
use Rattle.version_order.specs.declared.version.Version.{Version}

-- A version that is read is the text's version.
pub IsVersionText_read : {E : Type 0} (text : List ℕ) (r : Result Version E) → result_ok r ≡ version_of text
    → IfOk r (λ version. IsVersionText text version)
IsVersionText_read text (Ok version) read = version_of-spelled text version (sym read)
IsVersionText_read text (Err e) read = tt

-- The version of a text is read.
pub Ok_from_text : {E : Type 0} (text : List ℕ) (r : Result Version E) → result_ok r ≡ version_of text
    → (version : Version) → IsVersionText text version → r ≡ Ok version
Ok_from_text text (Ok found) read version spelled =
    let same = same_Some found version (read ∙ version_of-text text version spelled) in
    ap (λ (v : Version). Ok v) same
Ok_from_text text (Err e) read version spelled =
    absurd (none-some version (read ∙ version_of-text text version spelled))

-- A refused text isn't the text of a version.
pub refused_text : {E : Type 0} (text : List ℕ) (r : Result Version E) → result_ok r ≡ version_of text
    → OnErr r ((version : Version) → IsVersionText text version → ⊥)
refused_text text (Ok found) read = tt
refused_text text (Err e) read = λ version spelled. none-some version (read ∙ version_of-text text version spelled)

-- What each result implies for the text.
pub ruleset readings = (IsVersionText_read, refused_text)
