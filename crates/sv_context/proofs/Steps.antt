-- What one more event does to the segment, its base, its frames and the anomalies.
use Rattle.std.proofs.Common.{◌≡◌, ◌+◌, List, [], ◌∷◌, ◌++◌, map, refl, ap, ◌∙◌, arith}
use Rattle.std.specs.Prelude.{Bool, true, false, cond, Option, Some, None, filter_map, count_by}
use Rattle.std.specs.List.{after_last}
use Rattle.std.proofs.lemmas.List.{map-append, append-nil}
use Rattle.std.proofs.lemmas.List.Elements.{filter_map-append}
use Rattle.std.proofs.lemmas.List.Sums.{sum_by-append}
use Rattle.sv_packet.specs.declared.event.Event.{Event}
use Rattle.sv_packet.specs.Lists.{last_of}
use Rattle.sv_packet.specs.Time.{with_before}
use Rattle.sv_packet.specs.Events.{is_break}
use Rattle.sv_packet.proofs.Shared.{after_last-more, with_before-more, last_of-more}
use Rattle.sv_context.specs.declared.context.Context.{Context}
use Rattle.sv_context.specs.Role.{Role, base, role_of, base_of}
use Rattle.sv_context.specs.Context.{segment_of, is_anomaly, anomalies}

segment_by : (t : Bool) (events : List Event) (event : Event) → is_break event ≡ t
    → segment_of (events ++ event ∷ []) ≡ cond t [] (segment_of events ++ role_of event ∷ [])
segment_by true events event test =
    let none : after_last is_break (events ++ event ∷ []) ≡ [] = after_last-more is_break events
    event ∙ rw test refl in
    ap (map role_of) none
segment_by false events event test =
    let more : after_last is_break (events ++ event ∷ []) ≡ after_last is_break events ++ event ∷
    [] = after_last-more is_break events event ∙ rw test refl in
    ap (map role_of) more ∙ map-append role_of (after_last is_break events) (event ∷ [])

-- a break begins a segment, and each other event goes on with it
pub segment-more : (events : List Event) (event : Event) → segment_of (events ++ event ∷ [])
    ≡ cond (is_break event) [] (segment_of events ++ role_of event ∷ [])
segment-more events event = segment_by (is_break event) events event refl

-- the last base of a segment
abbrev pub base_in : List Role → Option Context
base_in segment = last_of (filter_map base_of segment)

pub base-new : (segment : List Role) (context : Context) → base_in (segment ++ base context ∷ [])
    ≡ Some context
base-new segment context = ap last_of (filter_map-append base_of segment (base context ∷ []))
    ∙ last_of-more (filter_map base_of segment) context

pub base-stays : (segment : List Role) (role : Role) → base_of role ≡ None
    → base_in (segment ++ role ∷ []) ≡ base_in segment
base-stays segment role none =
    let all : filter_map base_of (segment ++ role ∷ []) ≡ filter_map base_of segment ++ filter_map
    base_of (role ∷ []) = filter_map-append base_of segment (role ∷ []) in
    let no_more : filter_map base_of (role ∷ []) ≡ [] = rw none refl in
    ap last_of (all ∙ ap (λ rest. filter_map base_of segment ++ rest) no_more
    ∙ append-nil (filter_map base_of segment))

pub anomalies-more : (events : List Event) (event : Event) → anomalies (events ++ event ∷ [])
    ≡ anomalies events + cond (is_anomaly events event) 1 0
anomalies-more events event =
    ap (count_by (λ at. is_anomaly at.0 at.1)) (with_before-more events event)
    ∙ sum_by-append (λ at. cond (is_anomaly at.0 at.1) 1 0) (with_before events) ((events, event) ∷
    [])
    ∙ ap (λ n. anomalies events + n) (omega arith)
