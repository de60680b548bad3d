use Rattle.command_line.proofs.Program.{fault_found, none_found, subcommand_found}
use Rattle.command_line.proofs.matching.parsed.Goals as goal

pub returns-clause-found : goal.returns-clause-found
returns-clause-found g c =
    subcommand_found _ _ c.try_get_matches_from.result c.in_ok-bootswap.ensures c.try_get_matches_from.ensures.matches

pub returns-clause-taken : goal.returns-clause-taken
returns-clause-taken g c =
    none_found _ _ c.try_get_matches_from.result c.in_ok-bootswap.ensures c.try_get_matches_from.ensures.kinds

pub returns-clause-refused : goal.returns-clause-refused
returns-clause-refused g c =
    fault_found _ _ c.try_get_matches_from.result c.in_ok-bootswap.ensures c.try_get_matches_from.ensures.kinds
