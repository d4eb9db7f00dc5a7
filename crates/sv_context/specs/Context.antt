-- The context after events: which enters are still open is said by counting enters and exits.
use Rattle.std.specs.Prelude.{ℕ, Bool, not, ◌&&◌, nat_le, List, [], ◌∷◌, ◌++◌, map, count_by}
use Rattle.std.specs.Prelude.{filter_map, is_none, unwrap_or, option_to_list, if◌then◌else◌}
use Rattle.std.specs.List.{list_any, list_all, after_last, last_or}
use Rattle.sv_packet.specs.declared.event.Event.{Event}
use Rattle.sv_packet.specs.Lists.{fronts, last_of}
use Rattle.sv_packet.specs.Time.{with_before}
use Rattle.sv_packet.specs.Events.{is_break}
use Rattle.sv_context.specs.declared.context.Context.{Context}
use Rattle.sv_context.specs.declared.context.Context.TheVariants.{Unknown}
use Rattle.sv_context.specs.Role.{Role, role_of, base_of, frame_of, is_base, is_enter, is_exit}

-- what the events after the last break do
abbrev pub segment_of : List Event → List Role
segment_of events = map role_of (after_last is_break events)

-- no more exits than enters
abbrev pub is_covered : List Role → Bool
is_covered roles = nat_le (count_by is_exit roles) (count_by is_enter roles)

-- an enter is open after what follows it: no base came, and no front of it has more exits than
-- enters
abbrev pub is_open_after : List Role → Bool
is_open_after later = not (list_any is_base later) && list_all is_covered (fronts later)

-- the frames of the enters that are open in the end, in order
abbrev pub open_frames : List Role → List Context
open_frames [] = []
open_frames (role ∷ later) = (if is_open_after later then option_to_list (frame_of role) else []) ++
    open_frames later

-- the last open frame, or else the last base, or else unknown
abbrev pub context_in : List Role → Context
context_in segment = unwrap_or (last_or (last_of (filter_map base_of segment)) (open_frames
    segment)) Unknown

-- the context after the events
abbrev pub context_after : List Event → Context
context_after events = context_in (segment_of events)

-- the event is an exit, and after those before it no enter is open
abbrev pub is_anomaly : List Event → Event → Bool
is_anomaly before event = is_exit (role_of event) && is_none (last_of (open_frames (segment_of
    before)))

-- how many exits found nothing open
abbrev pub anomalies : List Event → ℕ
anomalies events = count_by (λ at. is_anomaly at.0 at.1) (with_before events)
