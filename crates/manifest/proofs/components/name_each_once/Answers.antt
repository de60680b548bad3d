use Rattle.std.proofs.Common.{refl}
use Rattle.std.proofs.lemmas.List.{take_all}
use Rattle.std.proofs.lemmas.Bool.{false≢true}
use Rattle.manifest.proofs.NamedOnce.{once_more, repeated}
use Rattle.manifest.proofs.components.name_each_once.Goals as goal

pub returns-then-is_named : goal.returns-then-is_named
returns-then-is_named c =
    (λ no. absurd (false≢true no), λ once. absurd (repeated _ _ _ c.loop-place-test.true once (c.if-is_named.ensures.0 refl)))

pub loop-place-preserved : goal.loop-place-preserved
loop-place-preserved c = once_more _ _ _ c.loop-place-test.true c.loop-place.invariant (λ named. false≢true (c.if-is_named.ensures.1 named))

pub returns : goal.returns
returns c = (λ yes. rw (← take_all c.loop-place.place c.args.components.now c.loop-place-test.false) c.loop-place.invariant, λ once. refl)
