use Rattle.std.proofs.Common.{◌≡◌, ℕ, List, [], ◌∷◌, refl, sym, ap, ◌∙◌}
use Rattle.std.specs.Prelude.{slice_index_or}
use Rattle.sv_packet.specs.declared.event.Event.TheVariants.{SysDesc}
use Rattle.sv_packet.specs.Table.{Text}
use Rattle.sv_recorder.proofs.packet.form_line.Goals as goal

pub returns : goal.returns
returns g c =
    let line = slice_index_or c.args.load.now.lines c.args.index [] in
    let text : c.as_slice.result.now ≡ line = c.as_slice.ensures.value ∙ c.line.ensures
    ∙ ap (λ (ls : List (List ℕ)). slice_index_or ls c.args.index []) c.requires.over.lines_are in
    record {
      block = c.encode_flat.ensures (SysDesc line)
          (record { same = refl; parts = ap (λ (t : List ℕ). Text t ∷ []) (sym text) });
    }
