use Rattle.std.proofs.Common.{◌+◌, ◌∙◌, ℕ, List, subst, take, rules}
use Rattle.std.specs.Io.KnownBytes.{Appends}
use Rattle.sv_base.proofs.Writing.{Appends-more, rest_behind}
use Rattle.sv_base.proofs.copies.put_all.Goals as goal

pub loop-rest-preserved : goal.loop-rest-preserved
loop-rest-preserved g c =
    let so_far = c.loop-rest.invariant in
    let count = c.in_ok-count.count in
    let written = g.K.Sink.written in record {
      count = so_far.count + count;
      rest = rest_behind c.args.bytes.now c.loop-rest.rest.now so_far.count count so_far.rest;
      bytes = Appends-more (written c.args.out.now) (written c.loop-rest.out)
          (written c.write.new.self) c.args.bytes.now so_far.count count so_far.bytes
          (subst (λ (x : List ℕ). Appends (written c.loop-rest.out) (written c.write.new.self)
          (take count x)) so_far.rest c.in_ok-count.ensures.bytes);
      kept = c.in_ok-count.ensures.cause.kept ∙ so_far.kept;
      sound = search rules;
    }
