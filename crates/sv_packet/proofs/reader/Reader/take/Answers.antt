use Rattle.std.proofs.Common.{ℕ, ◌<◌, ◌≤◌, List, length, refl, sym, subst, inl, inr}
use Rattle.std.proofs.lemmas.Bool.{cases_lt}
use Rattle.sv_prim.specs.Text.{AreBytes}
use Rattle.sv_packet.specs.Reader.{left}
use Rattle.sv_packet.proofs.told_of_parts.Pieces.{size_short, size_begins, slice_from}
use Rattle.sv_packet.proofs.one_spelling.Shorts.{is_not}
use Rattle.sv_packet.proofs.reader.Reader.take.Goals as goal

pub returns-then-not-has : goal.returns-then-not-has
returns-then-not-has c =
    let rest = slice_from c.args.self.now.bytes.now c.args.self.now.at c.args.self.now.within in
    let less : length (left c.args.self.now) < c.args.size =
    elim (cases_lt (length (left c.args.self.now)) c.args.size) [
      | inl lt ↦ lt
      | inr le ↦
          absurd
          (is_not c.has.result c.if-not-has.true
          (c.has.ensures.many.1 (subst (λ (x : List ℕ). c.args.size ≤ length x) (sym rest) le)))
    ] in
    size_short c.args.size (left c.args.self.now) (subst AreBytes rest c.has.ensures.are) less

pub returns : goal.returns
returns c =
    let rest = slice_from c.args.self.now.bytes.now c.args.self.now.at c.args.self.now.within in
    let le =
    subst (λ (x : List ℕ). c.args.size ≤ length x) rest
    (c.has.ensures.many.0 c.if-not-has.false) in
    rw rest (record {
      used = c.args.size;
      same = refl;
      further = refl;
      spelled =
          size_begins c.args.size (left c.args.self.now) (subst AreBytes rest c.has.ensures.are) le;
    })
