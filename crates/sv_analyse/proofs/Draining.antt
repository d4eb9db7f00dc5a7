-- What is known after all entries of a piece, or after the first of them.
use Rattle.std.proofs.Common.{◌≡◌, ℕ, ◌+◌, ◌≤◌, List, [], ◌∷◌, ◌++◌, length, sym, ap}
use Rattle.std.proofs.Common.{subst, ◌∙◌, append_assoc, arith, inl, inr, refl}
use Rattle.std.specs.Prelude.{Bool, false, true, filter_map, replicate}
use Rattle.std.proofs.lemmas.List.{append-nil, length-append, length-replicate, map-append}
use Rattle.sv_packet.specs.declared.event.TimedEvent.{TimedEvent}
use Rattle.sv_packet.specs.declared.event.Packet.{Packet}
use Rattle.sv_packet.specs.Time.{timed}
use Rattle.sv_stream.specs.declared.end.End.{End}
use Rattle.sv_stream.specs.declared.seen.Seen.{Seen}
use Rattle.sv_stream.specs.declared.seen.Seen.TheVariants.{Event as SeenEvent, Damage}
use Rattle.sv_stream.specs.Decoding.{Decoding, StandsFor as DecoderStandsFor}
use Rattle.sv_stream.specs.Entries.{event_of, events_of, packets_of, timed_entries}
use Rattle.sv_stream.specs.Input.{Entry}
use Rattle.sv_stream.specs.Reads.{Reads}
use Rattle.sv_stream.proofs.Shared.{events-timed, first_of_more, stands_first}
use Rattle.sv_feed.specs.Feed.{AreGiven, AreTaken, IsStopped, IsDrained}
use Rattle.sv_timeline.specs.declared.span.Span.{Span}
use Rattle.sv_timeline.specs.Runs.{ended_runs}
use Rattle.sv_timeline.specs.State.{ended_by}
use Rattle.sv_timeline.proofs.Shared.{given_ended, runs_grow}
use Rattle.sv_analyse.specs.Report.{event_in, place_in}
use Rattle.sv_analyse.specs.State.{AnalysisState, AnalysisStandsFor, AreAbreast, HasTaken, State}
use Rattle.sv_analyse.specs.State.{StandsFor, HasAdded}

-- the empty input has no entries
too_long : (junk : List ℕ) (zeros : ℕ) (body : List ℕ) → 10 ≤ zeros →
    [] ≡ junk ++ (replicate zeros 0 ++ body) → ⊥
too_long junk zeros body ten is =
    let many : length (replicate zeros 0 ++ body) ≡ length (replicate zeros 0) + length body =
    length-append (replicate zeros 0) body in
    let all : 0 ≡ length junk + length (replicate zeros 0 ++ body) =
    ap (λ (xs : List ℕ). length xs) is ∙ length-append junk (replicate zeros 0 ++ body) in
    let zero_ : ℕ = 0 in omega (arith, many, all, length-replicate zeros zero_)

pub empty_reads : (entries : List (Entry Packet)) (end : End) → Reads [] entries end → entries ≡ []
empty_reads entries end (inl (none, is, how)) = is
empty_reads entries end (inr (start, body, synced, goes)) =
    absurd (too_long synced.junk synced.zeros body synced.ten synced.whole)

-- each entry is an event or a mark
pub counted : (seen : List Seen)
    → length (filter_map event_in seen) + length (filter_map place_in seen) ≡ length seen
counted [] = refl
counted (SeenEvent event ∷ seen) = omega (arith, counted seen)
counted (Damage time place reason ∷ seen) = omega (arith, counted seen)

-- all that was seen is counted
pub all_counted : (analysis : AnalysisState) (seen : List Seen) (given : List Span)
    → AnalysisStandsFor analysis seen given
    → analysis.packets + analysis.marks ≡ length seen
all_counted analysis seen given s = omega (arith, s.packets, s.marks, counted seen)

-- a decoder takes a piece
abbrev pub Pushes : Decoding → Decoding → List ℕ → Type 0
Pushes old new piece =
    (input : List ℕ) (seen : List Seen) → DecoderStandsFor old input seen →
    DecoderStandsFor new (input ++ piece) seen

-- the runs that have ended in what was seen
abbrev pub runs_of : List Seen → List Span
runs_of seen = ended_runs (events_of seen)

-- the entries that are whole were taken, and their runs added
abbrev pub Takes : AnalysisState → AnalysisState → List Span → List Span → List Seen → Type 0
Takes = AreTaken runs_of HasTaken

-- and for one of them memory was wanting
abbrev pub Stops : AnalysisState → AnalysisState → List Span → List Span → List Seen → Type 0
Stops =
    IsStopped runs_of HasTaken (λ a before after. (a.failed ≡ true) × (after ≡ before))

-- both stand for the further entries
pub abreast_on : (old mid new : Decoding) (before after : AnalysisState) (piece : List ℕ)
    (first last : List Span) (seen : List Seen)
    → before.failed ≡ false → AreAbreast old before → Pushes old mid piece
    → AreGiven mid new seen → Takes before after first last seen
    → AreAbreast new after
abreast_on old mid new before after piece first last seen live a pushes g t =
    let took = t.took a.seen (live, a.given, a.analyses) in record {
      input = a.input ++ piece;
      seen = a.seen ++ seen;
      given = took.1;
      decodes = g.stands (a.input ++ piece) a.seen (pushes a.input a.seen a.decodes);
      analyses = took.2;
    }

-- the runs that were given are those that have ended
given_are : (analysis : AnalysisState) (seen : List Seen) (given : List Span)
    → AnalysisStandsFor analysis seen given → runs_of seen ≡ given
given_are analysis seen given a = given_ended analysis.timeline (events_of seen) given a.timeline

-- an entry adds the run that it ends
pub one_more : (old new : AnalysisState) (one : Seen)
    → ((seen : List Seen) (given : List Span) → AnalysisStandsFor old seen given →
    AnalysisStandsFor new (seen ++ one ∷ []) (given ++ ended_by old.timeline (event_of one)))
    → (earlier : List Seen) → HasTaken old earlier
    → runs_of (earlier ++ one ∷ []) ≡ runs_of earlier ++ ended_by old.timeline (event_of one)
one_more old new one stands earlier was =
    let runs = ended_by old.timeline (event_of one) in
    given_are new (earlier ++ one ∷ []) (was.1 ++ runs) (stands earlier was.1 was.2)
    ∙ ap (λ (given : List Span). given ++ runs) (sym (given_are old earlier was.1 was.2))

-- all that a piece has ended was added
pub fed : (self : State) (mid decoder : Decoding) (analysis : AnalysisState) (piece : List ℕ)
    (first last : List Span) (seen : List Seen)
    → self.analysis.failed ≡ false → Pushes self.decoder mid piece
    → AreGiven mid decoder seen → Takes self.analysis analysis first last seen
    → IsDrained mid decoder seen
    → (input : List ℕ) (given : List Span) → StandsFor self input given →
    (more : List Span) × (last ≡ first ++ more) × StandsFor
    (record { decoder = decoder; analysis = analysis }) (input ++ piece) (given ++ more)
fed self mid decoder analysis piece first last seen live pushes g t drained input given s =
    let stands = pushes input s.seen s.decoder in
    let was : HasTaken self.analysis s.seen = (live, given, s.analysis) in
    let took = t.took s.seen was in
    let items = t.items s.seen was in
    let runs : took.1 ≡ given ++ items.0 =
    sym (given_are analysis (s.seen ++ seen) took.1 took.2) ∙ items.2
    ∙ ap (λ (runs : List Span). runs ++ items.0)
    (given_are self.analysis s.seen given s.analysis) in (
      items.0,
      items.1,
      record {
        seen = s.seen ++ seen;
        decoder = g.stands (input ++ piece) s.seen stands;
        analysis = subst (AnalysisStandsFor analysis (s.seen ++ seen)) runs took.2;
        all = drained.all (input ++ piece) s.seen stands;
      },
    )

-- the runs of the first entries are the first of those of the input
pub runs_first : (seen further : List Seen) (given : List Span) (entries : List (Entry Packet))
    → runs_of seen ≡ given → timed_entries entries ≡ seen ++ further
    → (rest : List Span) × (ended_runs (timed (packets_of entries)) ≡ given ++ rest)
runs_first seen further given entries are is =
    let all : timed (packets_of entries) ≡ events_of seen ++ events_of further =
    sym (events-timed entries) ∙ ap events_of is ∙ map-append event_of seen further in
    let grown = runs_grow (packets_of entries) (events_of seen) (events_of further) []
    (all ∙ ap (λ (es : List TimedEvent). events_of seen ++ es)
    (sym (append-nil (events_of further)))) in (
      grown.0,
      ap ended_runs all ∙ grown.1 ∙ ap (λ (runs : List Span). runs ++ grown.0) are,
    )

-- none was added
pub none_added : (state : State) (piece : List ℕ) (spans : List Span) (input : List ℕ)
    (given : List Span) → StandsFor state input given → HasAdded (input ++ piece) given spans spans
none_added state piece spans input given s entries end reads =
    let next = first_of_more state.decoder input piece s.seen s.decoder entries end reads in
    let runs = runs_first s.seen next.0 given entries
    (given_are state.analysis s.seen given s.analysis) next.1 in
    ([], runs.0, sym (append-nil spans), runs.1)

-- some were added of those that the piece has ended
pub fed_part : (self : State) (mid decoder : Decoding) (analysis : AnalysisState)
    (piece : List ℕ) (first last : List Span) (seen : List Seen)
    → self.analysis.failed ≡ false → Pushes self.decoder mid piece
    → AreGiven mid decoder seen → Stops self.analysis analysis first last seen
    → (input : List ℕ) (given : List Span) → StandsFor self input given →
    HasAdded (input ++ piece) given first last
fed_part self mid decoder analysis piece first last seen live pushes g stops input given s entries
    end reads =
    let items = stops.items s.seen (live, given, s.analysis) in
    let more : List Span = items.0 in
    let now = g.stands (input ++ piece) s.seen (pushes input s.seen s.decoder) in
    let next = stands_first decoder (input ++ piece) (s.seen ++ seen) now entries end reads in
    let are : runs_of (s.seen ++ stops.first) ≡ given ++ more =
    items.2 ∙ ap (λ (runs : List Span). runs ++ more)
    (given_are self.analysis s.seen given s.analysis) in
    let all : timed_entries entries ≡ (s.seen ++ stops.first) ++ (stops.left ++ next.0) =
    next.1 ∙ ap (λ (k : List Seen). (s.seen ++ k) ++ next.0) stops.entries_are
    ∙ ap (λ (k : List Seen). k ++ next.0) (sym (append_assoc s.seen stops.first stops.left))
    ∙ append_assoc (s.seen ++ stops.first) stops.left next.0 in
    let runs = runs_first (s.seen ++ stops.first) (stops.left ++ next.0) (given ++ more) entries
    are all in
    (more, runs.0, stops.fails.1 ∙ items.1, runs.1 ∙ append_assoc given more runs.0)
