use Rattle.std.proofs.Common.{◌≤◌, length, sym, ◌∙◌, arith}
use Rattle.std.specs.Prelude.{drop}
use Rattle.std.proofs.lemmas.List.{drop_all}
use Rattle.sv_workload.proofs.words_read.Passing.{Leaves, ended, through}
use Rattle.sv_workload.proofs.numbers.Numbers.take_all.Goals as goal

-- where no word is left
stopped : (c : goal.In_default) → Leaves (record {
  values = c.loop-range.self.values.items;
  filled = c.loop-range.self.filled;
  ranged = c.loop-range.self.ranged;
  words = c.loop-range.words;
}) c.args.ranges.now c.args.words.now c.args.self.now.values.items c.args.self.now.filled
    c.args.self.now.ranged
stopped c =
    ended _ _ _ _ _ _ (drop c.loop-range.range-index c.args.ranges.now)
    (c.in_default.ensures.none.0) c.loop-range.invariant.0

-- where no range is left
finished : (c : goal.After-loop-range) → Leaves (record {
  values = c.loop-range.self.values.items;
  filled = c.loop-range.self.filled;
  ranged = c.loop-range.self.ranged;
  words = c.loop-range.words;
}) c.args.ranges.now c.args.words.now c.args.self.now.values.items c.args.self.now.filled
    c.args.self.now.ranged
finished c =
    let ranges = c.args.ranges.now in
    let all : length ranges ≤ c.loop-range.range-index = omega (arith, c.loop-range-test.false) in
    through _ _ _ _ _ _ (drop c.loop-range.range-index ranges)
    (drop_all c.loop-range.range-index ranges all)
    c.loop-range.invariant.0

pub returns-in_default-clause-values : goal.returns-in_default-clause-values
returns-in_default-clause-values c = (stopped c).values_are

pub returns-in_default-clause-filled : goal.returns-in_default-clause-filled
returns-in_default-clause-filled c = (stopped c).filled_is

pub returns-in_default-clause-ranged : goal.returns-in_default-clause-ranged
returns-in_default-clause-ranged c = (stopped c).ranged_is

pub returns-in_default-clause-rest : goal.returns-in_default-clause-rest
returns-in_default-clause-rest c =
    c.in_default.ensures.none.1 ∙ sym c.in_default.ensures.none.0 ∙ (stopped c).words_are

pub returns-clause-values : goal.returns-clause-values
returns-clause-values c = (finished c).values_are

pub returns-clause-filled : goal.returns-clause-filled
returns-clause-filled c = (finished c).filled_is

pub returns-clause-ranged : goal.returns-clause-ranged
returns-clause-ranged c = (finished c).ranged_is

pub returns-clause-rest : goal.returns-clause-rest
returns-clause-rest c = (finished c).words_are
