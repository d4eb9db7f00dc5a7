use Rattle.std.proofs.Common.{ℕ, List, refl, subst}
use Rattle.sv_prim.specs.Code.{BreaksAt}
use Rattle.sv_prim.specs.TextAt.{IsTextAt}
use Rattle.sv_packet.proofs.told_of_parts.Pieces.{text_breaks, slice_from}
use Rattle.sv_packet.proofs.reader.Reader.text.Goals as goal

pub returns-in-Bad : goal.returns-in-Bad
returns-in-Bad c =
    let told = c.in-Bad.ensures.told in
    let rest = slice_from c.args.self.now.bytes.now c.args.self.now.at c.args.self.now.within in (
      c.in-Bad.place,
      refl,
      text_breaks _ c.in-Bad.place
          (subst (λ (x : List ℕ). BreaksAt IsTextAt x c.in-Bad.place) rest told.0),
      told.1,
    )
