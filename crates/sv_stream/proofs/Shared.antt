-- What crates above may use: how an input reads, with damage and without, what more bytes leave of
-- that, the times of its entries, and what a decoder has given of it.
use Rattle.std.proofs.Common.{◌≡◌, List, ℕ, ◌++◌, map, ap, ◌∙◌}
use Rattle.sv_prim.specs.Text.{AreBytes}
use Rattle.sv_packet.specs.declared.event.Packet.{Packet}
use Rattle.sv_packet.specs.Packet.{IsPacket}
use Rattle.sv_packet.specs.Reason.{packet_reason}
use Rattle.sv_packet.proofs.Shared.{packet_total}
use Rattle.sv_stream.specs.declared.end.End.{End}
use Rattle.sv_stream.specs.declared.seen.Seen.{Seen}
use Rattle.sv_stream.specs.Entries.{timed_entries}
use Rattle.sv_stream.specs.Input.{Entry, Whole}
use Rattle.sv_stream.specs.Reads.{Reads}
use Rattle.sv_stream.specs.Undamaged.{IsUndamaged}
use Rattle.sv_stream.proofs.Existing.{reads_exists}
use Rattle.sv_stream.proofs.Growing.{reads_grown}
use Rattle.sv_stream.proofs.Once.{reads_once}
use Rattle.sv_stream.proofs.Packets.{readable}
use Rattle.sv_stream.proofs.Times.{timed-grown}
use Rattle.sv_stream.proofs.Undamaged.{whole_reads, reads_whole}
pub use Rattle.sv_stream.proofs.Bounds.{given_few, time_given}
pub use Rattle.sv_stream.proofs.Standing.{stands_first, first_of_more, stands_piece}
pub use Rattle.sv_stream.proofs.Times.{events-timed, last_time-entries, time_same, timed-whole}
pub use Rattle.sv_prim.proofs.Shared.{bytes_both}

-- bytes have a reading
pub reading : (input : List ℕ) → AreBytes input →
    (entries : List (Entry Packet)) × (end : End) × Reads input entries end
reading = reads_exists IsPacket packet_reason readable packet_total

-- and no other
pub one_reading : (input : List ℕ) (entries others : List (Entry Packet)) (end other : End) →
    Reads input entries end → Reads input others other → (entries ≡ others) × (end ≡ other)
one_reading input entries others end other =
    reads_once IsPacket packet_reason readable input entries others end other

-- more bytes add entries after those that an input has
pub seen_grown : (input more : List ℕ) (entries others : List (Entry Packet)) (end other : End) →
    Reads input entries end → Reads (input ++ more) others other
    → (further : List Seen) × (timed_entries others ≡ timed_entries entries ++ further)
seen_grown input more entries others end other one two =
    let grown =
    reads_grown IsPacket packet_reason readable input more entries others end other one two in
    let seen = timed-grown entries grown.0 in
    (seen.0, ap timed_entries grown.1 ∙ seen.1)

-- without damage an input is read with no mark
pub undamaged_reads : (input : List ℕ) (packets : List Packet) (end : End) →
    IsUndamaged input packets end → Reads input (map Whole packets) end
undamaged_reads = whole_reads IsPacket packet_reason

pub reads_undamaged : (input : List ℕ) (packets : List Packet) (end : End) →
    Reads input (map Whole packets) end → IsUndamaged input packets end
reads_undamaged = reads_whole IsPacket packet_reason
