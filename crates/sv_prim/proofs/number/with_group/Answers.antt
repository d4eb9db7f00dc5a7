use Rattle.sv_prim.proofs.Groups.{group_or}
use Rattle.sv_prim.proofs.number.with_group.Goals as goal

pub returns : goal.returns
returns c =
    rw c.from.ensures
    (group_or c.args.value c.args.place c.args.byte c.requires.few c.requires.below
    c.requires.fits)
