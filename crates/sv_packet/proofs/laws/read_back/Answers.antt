use Rattle.std.proofs.Common.{sym, subst, arith, refl}
use Rattle.std.proofs.lemmas.List.{length-append}
use Rattle.std.proofs.Math.Seq.{take-append_seam}
use Rattle.sv_packet.specs.Packet.{IsPacket}
use Rattle.sv_packet.specs.Spelling.{spelling_of}
use Rattle.sv_packet.proofs.one_spelling.Spelled.{packet_law}
use Rattle.sv_packet.proofs.laws.read_back.Goals as goal

pub returns : goal.returns
returns c = λ packet more range valid fits.
    let s = spelling_of packet.event packet.delta in
    record {
      within = omega (arith, length-append s more);
      spelled =
          subst (IsPacket packet) (sym (take-append_seam s more)) ((packet_law packet s).1 (
            range,
            valid,
            fits,
            refl,
          ));
    }
