use Rattle.arguments.proofs.image_words.dependencies_in.Goals as goal

-- If a value of `--needs` isn't a dependency, none is found.
pub returns-in_default : goal.returns-in_default
returns-in_default c = λ one says. (rw c.in_default.is at c.in_ok-dependencies.ensures) says.needs says.are_needs

-- If a value in brackets isn't a dependency, none is found.
pub returns-in_default-2 : goal.returns-in_default-2
returns-in_default-2 c = λ one says. (rw c.in_default-2.is at c.in_ok-bracketed.ensures) says.bracketed says.are_bracketed
