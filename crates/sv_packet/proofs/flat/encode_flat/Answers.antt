use Rattle.std.proofs.Common.{length, ap, arith}
use Rattle.sv_prim.proofs.Shared.{are_bytes}
use Rattle.sv_packet.proofs.how_long.Flats.{flat_few, text_few}
use Rattle.sv_packet.proofs.how_long.Sizes.{plain_small, texted_small}
use Rattle.sv_packet.proofs.flat.encode_flat.Goals as goal

pub put_texted-requires-clause-room : goal.put_texted-requires-clause-room
put_texted-requires-clause-room c = omega (
  arith,
  texted_small c.args.numbers.now c.args.text.now,
  flat_few c.args.id (length c.args.numbers.now) c.requires.form,
  text_few c.args.id,
  c.requires.text,
  ap length c.requires.empty,
)

pub put_texted-requires-clause-bytes : goal.put_texted-requires-clause-bytes
put_texted-requires-clause-bytes c = are_bytes c.args.text.now c.type_inv.text

pub put_plain-requires-clause-small : goal.put_plain-requires-clause-small
put_plain-requires-clause-small c = λ high. omega (
  arith,
  plain_small c.args.numbers.now,
  flat_few c.args.id (length c.args.numbers.now) c.requires.form,
)

pub put_plain-requires-clause-room : goal.put_plain-requires-clause-room
put_plain-requires-clause-room c = omega (
  arith,
  plain_small c.args.numbers.now,
  flat_few c.args.id (length c.args.numbers.now) c.requires.form,
  ap length c.requires.empty,
)
