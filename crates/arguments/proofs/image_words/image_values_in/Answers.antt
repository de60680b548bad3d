use Rattle.arguments.proofs.image_words.image_values_in.Goals as goal

-- If an argument isn't valid, the matches describe no image.
pub returns-in_default-size_said : goal.returns-in_default-size_said
returns-in_default-size_said c = λ one says. c.in_default-size_said.ensures one.load_address says.load_address

pub returns-in_default-size_said-2 : goal.returns-in_default-size_said-2
returns-in_default-size_said-2 c = λ one says. c.in_default-size_said-2.ensures one.flags says.flags

pub returns-in_default-2 : goal.returns-in_default-2
returns-in_default-2 c = λ one says.
    (rw c.in_default-2.is at c.in_ok-dependencies.ensures) one.dependencies.items says.dependencies
