use Rattle.sector_map.proofs.Cover.{one_part, covered}
use Rattle.sector_map.proofs.Places.{within}
use Rattle.sector_map.proofs.laws.parts_lie_apart.Goals as goal

pub returns-clause-apart : goal.returns-clause-apart
returns-clause-apart c = λ p q sector in_p in_q. one_part c.args.map.now p q sector c.args.map.now.is_map in_p in_q

pub returns-clause-within : goal.returns-clause-within
returns-clause-within c = λ p sector at. within c.args.map.now p sector c.args.map.now.is_map at

pub returns-clause-filled : goal.returns-clause-filled
returns-clause-filled c = λ sector lt. covered c.args.map.now sector c.args.map.now.is_map lt

pub returns-clause-trailers : goal.returns-clause-trailers
returns-clause-trailers c = λ i. c.args.map.now.is_map.trailers i
