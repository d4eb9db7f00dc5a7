use Rattle.std.proofs.Common.{◌≤◌, ◌∙◌, List, ℕ, length, sym, ap, subst, refl}
use Rattle.sv_packet.specs.Spelling.{spelling_of}
use Rattle.sv_journal.specs.declared.journal.Origin.TheVariants.{Reply}
use Rattle.sv_journal.specs.Items.{reply_event}
use Rattle.sv_recorder.specs.Formed.{block_bytes}
use Rattle.sv_recorder.proofs.moving.Entries.{block_short}
use Rattle.sv_recorder.proofs.packet.form.Goals as goal

pub returns-in-Reply-clause-short : goal.returns-in-Reply-clause-short
returns-in-Reply-clause-short g c =
    let load = c.args.load.now in
    let kind = c.in-Reply.kind in
    let index = c.in-Reply.index in
    let block = c.form_reply.ensures.block
    ∙ ap (spelling_of (reply_event load c.args.moment kind index)) c.delta-ticks.ensures in
    rw c.in-Reply.is (subst (λ (b : List ℕ). length b ≤ block_bytes load (Reply kind index))
    (sym block) (block_short load (Reply kind index) c.args.moment c.args.last c.requires.texts refl
    refl))
