use Rattle.arguments.proofs.manifest_words.manifest_values_in.Goals as goal

-- If no files were found, the matches describe no manifest.
pub returns-in_default-2 : goal.returns-in_default-2
returns-in_default-2 c = λ one says. (rw c.in_default-2.is at c.in_ok-components.ensures) one.components.items says.components
