-- `fewest::refusal_of_table` meets its contract, by what was read. Assumes nothing.
use native.Mathlib.Omega.{arith}
use Rattle.contract.specs.declared.Form.TheVariants.{Table}
use Rattle.record.proofs.FindLaws.{found_form, found_whole}
use Rattle.planning.proofs.ReadLaws.{read_refused, read_accepted}
use Rattle.fewest.proofs.PlanLaws.{record_refused, table_refused}
use Rattle.fewest.proofs.refusal_of_table.Goals as goal

pub returns-in-Err : goal.returns-in-Err
returns-in-Err c = record_refused c.args.bytes.now _ (read_refused _ _ _ (found_whole Table c.args.bytes.now c.requires 128 (omega arith)) (c.in-Err.ensures))

pub returns-in-Ok : goal.returns-in-Ok
returns-in-Ok c =
    let said = read_accepted _ _ _ (found_whole Table c.args.bytes.now c.requires 128 (omega arith)) (c.in-Ok.ensures) in
    table_refused c.args.bytes.now _ said (found_form Table c.args.bytes.now c.requires _ said)
