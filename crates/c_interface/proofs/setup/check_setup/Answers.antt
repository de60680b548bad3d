use Rattle.std.proofs.Common.{◌≡◌, true, false, refl}
use Rattle.c_interface.specs.Setup.{NoFlash, NoTrial}
use Rattle.c_interface.proofs.setup.check_setup.Goals as goal

pub returns-then-not-is_trial-clause-refused : goal.returns-then-not-is_trial-clause-refused
returns-then-not-is_trial-clause-refused c = NoTrial refl c.in-Some.map c.in-Some.ensures.some
    (λ trial. let is : false ≡ true = c.if-not-is_trial.ensures.1 trial in absurd cc)

pub returns-then-not-fits-clause-refused : goal.returns-then-not-fits-clause-refused
returns-then-not-fits-clause-refused c = NoFlash refl c.in-Some.map c.in-Some.ensures.some (c.if-not-is_trial.ensures.0 refl)
    (λ room. let is : false ≡ true = c.if-not-fits.ensures.1 room in absurd cc)
