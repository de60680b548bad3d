use Rattle.device_texts.proofs.device.fields_of.Goals as goal

-- The value gives no valid number of boots, so it spells no fields.
pub returns-in_default-trial_boots-clause-fault : goal.returns-in_default-trial_boots-clause-fault
returns-in_default-trial_boots-clause-fault c = λ said.
    c.in_default-trial_boots.ensures.other said.0.trial_boots said.1.trial_boots
