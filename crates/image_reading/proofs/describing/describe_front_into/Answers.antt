use Rattle.common.proofs.Results.{IfErr-passed}
use Rattle.image_reading.proofs.FrontChecks.{first_in_counter, first_in_digest, first_in_needs, intact_front}
use Rattle.image_reading.proofs.Occurrences.{CanReadOccurrence-met}
use Rattle.image_reading.proofs.describing.describe_front_into.Goals as goal

pub own_digest-requires-clause-entry : goal.own_digest-requires-clause-entry
own_digest-requires-clause-entry g c =
    let gathered = c.in_ok-front.ensures.gathered in
    rw c.read.ensures.same (CanReadOccurrence-met _ _ _ _ gathered.unprotected)

pub counter-requires : goal.counter-requires
counter-requires g c =
    let gathered = c.in_ok-front.ensures.gathered in
    rw (c.own_digest.ensures.same, c.read.ensures.same) (CanReadOccurrence-met _ _ _ _ gathered.protected.counter)

pub returns-in_err-description-clause-fault : goal.returns-in_err-description-clause-fault
returns-in_err-description-clause-fault g c =
    let front = c.in_ok-front.ensures in
    let failed = rw c.read.ensures.same at c.in_err-description.ensures.fault in
    IfErr-passed _ _ _ c.from_residual-in_err-description.ensures.1
    (first_in_digest _ _ _ _ _ _ front.found.1 front.gathered failed)

pub returns-in_err-check_needs-clause-fault : goal.returns-in_err-check_needs-clause-fault
returns-in_err-check_needs-clause-fault g c =
    let front = c.in_ok-front.ensures in
    let read = rw c.read.ensures.same at c.in_ok-description.ensures.entry in
    IfErr-passed _ _ _ c.from_residual-in_err-check_needs.ensures.1
    (first_in_needs _ _ _ _ _ _ front.found.1 front.gathered read (c.in_err-check_needs.ensures.err c.read.new.description))

pub returns-in_err-description-2-clause-fault : goal.returns-in_err-description-2-clause-fault
returns-in_err-description-2-clause-fault g c =
    let front = c.in_ok-front.ensures in
    let read = rw c.read.ensures.same at c.in_ok-description.ensures.entry in
    let failed = rw (c.own_digest.ensures.same, c.read.ensures.same) at c.in_err-description-2.ensures.err in
    IfErr-passed _ _ _ c.from_residual-in_err-description-2.ensures.1
    (first_in_counter _ _ _ _ _ _ front.found.1 front.gathered read (c.in_ok-check_needs.ensures.ok c.read.new.description) failed)

pub returns-clause-described : goal.returns-clause-described
returns-clause-described g c =
    let front = c.in_ok-front.ensures in
    let read = rw c.read.ensures.same at c.in_ok-description.ensures.entry in
    let hashed = rw c.read.ensures.same at c.in_ok-description.ensures.own in
    let counted = rw (c.own_digest.ensures.same, c.read.ensures.same) at c.in_ok-description-2.ensures.ok in
    intact_front _ _ _ _ _ _ _ front.found.1 front.gathered read (c.in_ok-check_needs.ensures.ok c.read.new.description) hashed counted
