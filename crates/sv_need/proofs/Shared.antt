-- What crates above may use of the lemmas on needs.
pub use Rattle.sv_need.proofs.ItemCounts.{due_items, within_items}
pub use Rattle.sv_need.proofs.ByteCounts.{due_bytes, within_bytes}
pub use Rattle.sv_need.proofs.Limits.{few_items, few_needed, short_stream}
pub use Rattle.sv_need.proofs.Rooms.{packet_items, packet_bytes_room}
pub use Rattle.sv_need.proofs.Blocks.{overflow_small}
pub use Rattle.sv_need.proofs.Ticks.{ticks_next, script_short}
