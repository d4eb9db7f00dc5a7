use Rattle.std.proofs.Common.{rules, ◌≡◌, ℕ, ◌+◌, ◌-◌, ◌<◌, [], ◌∷◌, ◌++◌, length, take, refl, sym}
use Rattle.std.proofs.Common.{ap, ◌∙◌, arith}
use Rattle.std.proofs.lemmas.Grind.{common_steps}
use Rattle.sv_context.proofs.Standing.{stands-break, stands-base, stands-enter, stands-nothing}
use Rattle.sv_context.proofs.Standing.{stands-exit, stands-anomaly, few_in, none_left, some_left}
use Rattle.std.specs.Prelude.{vec_len}
use Rattle.sv_packet.specs.EventRef.{seen}
use Rattle.sv_context.proofs.contexts.Contexts.apply.Goals as goal

pub overflow_add-self : goal.overflow_add-self
overflow_add-self c = let few = few_in c.args.self.now c.requires.few in
    let same : c.self.inside.anomalies ≡ c.args.self.now.anomalies = cc in omega (arith, same, few)

pub returns-in-Break-clause-stands : goal.returns-in-Break-clause-stands
returns-in-Break-clause-stands c = λ events s. let says = c.in-Break.ensures in
    let count : c.self.inside.anomalies ≡ c.args.self.now.anomalies = cc in
    stands-break c.args.self.now _ events (seen c.args.event.now) says.0 says.1 s refl (search rules) count

pub returns-in-Base-clause-stands : goal.returns-in-Base-clause-stands
returns-in-Base-clause-stands c = λ events s. let says = c.in-Base.ensures in
    let count : c.self.inside.anomalies ≡ c.args.self.now.anomalies = cc in
    stands-base c.args.self.now _ events (seen c.args.event.now) c.in-Base.context says.0 says.1 s refl
    (search rules) count

pub returns-in-Nothing-clause-stands : goal.returns-in-Nothing-clause-stands
returns-in-Nothing-clause-stands c = λ events s. let says = c.in-Nothing.ensures in
    stands-nothing _ events _ says.0 says.1 s

pub returns-else-is_err-clause-stands : goal.returns-else-is_err-clause-stands
returns-else-is_err-clause-stands c = λ events s. let says = c.in-Enter.ensures in
    let base_ : c.self.inside.base ≡ c.args.self.now.base = cc in
    let count : c.self.inside.anomalies ≡ c.args.self.now.anomalies = cc in
    let frames_ : c.self.inside.frames.items ≡ c.args.self.now.frames = cc in
    let pushed : c.push_reserved.new.self.items ≡ c.self.inside.frames.items ++ c.in-Enter.context ∷
    [] = grind (arith, common_steps) in
    stands-enter c.args.self.now _ events (seen c.args.event.now) c.in-Enter.context says.0 says.1 s base_
    (pushed ∙ ap (λ fs. fs ++ c.in-Enter.context ∷ []) frames_) count

pub returns-then-is_none-clause-stands : goal.returns-then-is_none-clause-stands
returns-then-is_none-clause-stands c = λ events s. let says = c.in-Exit.ensures in
    let base_ : c.self.inside.base ≡ c.args.self.now.base = cc in
    let count : c.self.inside.anomalies ≡ c.args.self.now.anomalies = cc in
    let frames_ : c.self.inside.frames.items ≡ c.args.self.now.frames = cc in
    let many : length c.self.inside.frames.items ≡ vec_len c.self.inside.frames = search rules in
    let more : length c.pop.new.self.items ≡ vec_len c.pop.new.self = search rules in
    let gone = none_left c.pop.result c.self.inside.frames.items c.pop.new.self.items (vec_len
    c.self.inside.frames) (vec_len c.pop.new.self) many more c.if-is_none.ensures
    c.pop.ensures.cases in
    stands-anomaly c.args.self.now _ events (seen c.args.event.now) says.0 says.1 s (sym frames_
    ∙ gone.0) base_ gone.1 (ap (λ (n : ℕ). n + 1) count)

pub returns-else-is_none-clause-stands : goal.returns-else-is_none-clause-stands
returns-else-is_none-clause-stands c = λ events s. let says = c.in-Exit.ensures in
    let base_ : c.self.inside.base ≡ c.args.self.now.base = cc in
    let count : c.self.inside.anomalies ≡ c.args.self.now.anomalies = cc in
    let frames_ : c.self.inside.frames.items ≡ c.args.self.now.frames = cc in
    let many : length c.self.inside.frames.items ≡ vec_len c.self.inside.frames = search rules in
    let some : 0 < vec_len c.self.inside.frames = some_left c.pop.result (vec_len
    c.self.inside.frames) (vec_len c.pop.new.self) c.if-is_none.ensures c.pop.ensures.cases in
    let shorter : c.pop.new.self.items ≡ take (length c.self.inside.frames.items - 1)
    c.self.inside.frames.items = c.pop.ensures.rest
    ∙ ap (λ (n : ℕ). take (n - 1) c.self.inside.frames.items) (sym many) in
    stands-exit c.args.self.now _ events (seen c.args.event.now) says.0 says.1 s (omega (
      arith,
      some,
      many,
      ap length frames_,
    )) base_ (shorter ∙ ap (λ fs. take (length fs - 1) fs) frames_) count
