-- What an analyser keeps of its input.
use Rattle.std.specs.Prelude.{◌≡◌, ℕ, ◌+◌, ◌≤◌, Bool, true, false, List, length, ◌++◌, filter_map}
use Rattle.sv_packet.specs.declared.event.Event.TheVariants.{TraceStop}
use Rattle.sv_packet.specs.declared.event.TimedEvent.{TimedEvent}
use Rattle.sv_packet.specs.declared.event.Packet.{Packet}
use Rattle.sv_packet.specs.Time.{timed}
use Rattle.sv_stream.specs.declared.end.End.{End}
use Rattle.sv_stream.specs.declared.seen.Seen.{Seen}
use Rattle.sv_stream.specs.Entries.{timed_entries, events_of, packets_of}
use Rattle.sv_stream.specs.Input.{Entry}
use Rattle.sv_stream.specs.Reads.{Reads}
use Rattle.sv_stream.specs.Decoding.{Decoding, IsSettled, StandsFor as DecoderStandsFor}
use Rattle.sv_timeline.specs.declared.span.Span.{Span}
use Rattle.sv_timeline.specs.Runs.{ended_runs}
use Rattle.sv_timeline.specs.State.{State as TimelineState, StandsFor as TimelineStandsFor}
use Rattle.sv_analyse.specs.NamesState.{NamesState, NamesStandFor}
use Rattle.sv_analyse.specs.Report.{event_in, place_in}
use Rattle.sv_latency.specs.State.{State as LatencyState, StandsFor as LatencyStandsFor}

pub record AnalysisState : Type 0 where
  pub timeline : TimelineState
  pub latency : LatencyState
  pub names : NamesState
  pub packets : ℕ
  pub marks : ℕ
  pub failed : Bool

-- the state stands for what was seen, and these runs were given
pub record AnalysisStandsFor (state : AnalysisState) (seen : List Seen) (given : List Span) : Type 0
  where
    pub timeline : TimelineStandsFor state.timeline (events_of seen) given
    pub latency : LatencyStandsFor state.latency (events_of seen)
    pub names : NamesStandFor state.names (filter_map event_in seen)
    pub packets : state.packets ≡ length (filter_map event_in seen)
    pub marks : state.marks ≡ length (filter_map place_in seen)

-- what a mark at this time is for the timeline and the latencies: a recording's end
abbrev pub stop_at : ℕ → TimedEvent
stop_at time = record { time = time; event = TraceStop }

-- some events were analysed, as many as are counted with the marks
pub record IsCounted (timeline : TimelineState) (latency : LatencyState) (names : NamesState)
    (packets marks : ℕ) : Type 0 where
  pub events : List TimedEvent
  pub given : List Span
  pub stands : TimelineStandsFor timeline events given
  pub count : packets + marks ≡ length events
  pub last : latency.last ≡ timeline.last
  pub applied : latency.applied ≡ packets + marks
  pub lost : names.overflows ≤ packets

-- what is kept as long as memory was never wanting
abbrev pub IsLive : TimelineState → LatencyState → NamesState → ℕ → ℕ → Bool → Type 0
IsLive timeline latency names packets marks false = IsCounted timeline latency names packets marks
IsLive timeline latency names packets marks true = Unit {0}

pub record State : Type 0 where
  pub decoder : Decoding
  pub analysis : AnalysisState

-- the state stands for the input, and these runs were given
pub record StandsFor (state : State) (input : List ℕ) (given : List Span) : Type 0 where
  pub seen : List Seen
  pub decoder : DecoderStandsFor state.decoder input seen
  pub analysis : AnalysisStandsFor state.analysis seen given
  pub all :
      (entries : List (Entry Packet)) (end : End) → Reads input entries end →
      seen ≡ timed_entries entries

-- the analysis has not failed, and stands for these entries
abbrev pub HasTaken : AnalysisState → List Seen → Type 0
HasTaken analysis seen =
    (analysis.failed ≡ false) × (given : List Span) × AnalysisStandsFor analysis seen given

-- the analysis stands for the entries that the decoder has given
pub record AreAbreast (decoder : Decoding) (analysis : AnalysisState) : Type 0 where
  pub input : List ℕ
  pub seen : List Seen
  pub given : List Span
  pub decodes : DecoderStandsFor decoder input seen
  pub analyses : AnalysisStandsFor analysis seen given

-- what an analyser keeps as long as memory was never wanting
abbrev pub IsAbreast : Decoding → AnalysisState → Type 0
IsAbreast decoder analysis = analysis.failed ≡ false → IsSettled decoder
    × AreAbreast decoder analysis

-- the first of the runs that have ended in the input were added, after those that were given before
abbrev pub HasAdded : List ℕ → List Span → List Span → List Span → Type 0
HasAdded input given before after =
    (entries : List (Entry Packet)) (end : End) → Reads input entries end →
    (more : List Span) × (rest : List Span) × (after ≡ before ++ more)
    × (ended_runs (timed (packets_of entries)) ≡ given ++ (more ++ rest))
