use Rattle.std.proofs.Common.{◌≡◌, ◌∷◌, ◌++◌, [], append_assoc, string_bytes}
use Rattle.std.proofs.lemmas.Result.{IfOk-weaker}
use Rattle.inspecting.specs.ManifestText.{component_text}
use Rattle.inspecting.proofs.manifest_file.write_component.Goals as goal

-- The parts are those of the component's text.
pub returns : goal.returns
returns c =
    let digest = rw c.as_slice.ensures at c.in_ok-digest.ensures in
    let precursor = c.in_ok-precursor.ensures in
    let kind = c.kind_text-kind.ensures in
    IfOk-weaker c.writeln.result _ (λ _. string_bytes c.writeln.new.self
    ≡ string_bytes c.args.text.now ++ (component_text c.args.component.now ++ 10 ∷ []))
    (λ _ written. simp append_assoc (simp (digest, precursor, kind) at written)) c.writeln.ensures.bytes
