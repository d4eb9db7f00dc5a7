use Rattle.std.proofs.Common.{refl}
use Rattle.sv_view.proofs.Begun.{between-none}
use Rattle.sv_view.proofs.scan.Scan.new.Goals as goal

pub returns-clause-between : goal.returns-clause-between
returns-clause-between g c =
    λ left out. between-none g.V.View.text g.V.View.shown left out _ c.new.ensures.stands
    c.new.ensures.settled (c.requires, λ end. refl) refl c.new-2.ensures.items

pub returns-clause-shown : goal.returns-clause-shown
returns-clause-shown g c = (c.requires, λ end. refl)
