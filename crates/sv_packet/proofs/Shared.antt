-- What crates above may use: how packets are read and how long they are, their times, and lists
-- with one more element.
pub use Rattle.sv_packet.proofs.lists.Adding.{Counted}
pub use Rattle.sv_packet.proofs.one_spelling.Free.{packet_free}
pub use Rattle.sv_packet.proofs.lists.Growing.{after_last-more, with_before-more, fronts-more}
pub use Rattle.sv_packet.proofs.lists.Growing.{neighbours-more, last_of-more, in_order-more}
pub use Rattle.sv_packet.proofs.lists.Growing.{first_seen-new, first_seen-again}
pub use Rattle.sv_packet.proofs.lists.Growing.{Ending, empty, ended, ending_of}
pub use Rattle.sv_packet.proofs.lists.Growing.{last_time-more, last_time-timed, times_rise}
pub use Rattle.sv_packet.proofs.one_spelling.Once.{packet_size}
pub use Rattle.sv_packet.proofs.how_long.Sizes.{plain_small}
pub use Rattle.sv_packet.proofs.one_spelling.Spelled.{packet_law}
pub use Rattle.sv_packet.proofs.how_long.Taken.{opaque_recordable, print_recordable}
pub use Rattle.sv_packet.proofs.how_long.Taken.{short_recordable, high_valid}
pub use Rattle.sv_packet.proofs.lists.Times.{time_of-push, timed-append, timed-push, timed_after}
pub use Rattle.sv_packet.proofs.one_spelling.Totality.{packet_total, reason_one}
