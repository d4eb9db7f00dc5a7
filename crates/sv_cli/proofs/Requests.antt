-- What words ask for, and that an answer to a request is never a matter of the words.
use Rattle.std.proofs.Common.{◌≡◌, ℕ, ◌<◌, ◌≤◌, Bool, true, false, List, [], ◌∷◌, length, Option, Some, None}
use Rattle.std.proofs.Common.{Result, Ok, Err, refl, sym, ◌∙◌, subst, arith}
use Rattle.std.specs.Prelude.{IfNone, IfSome, codes, slice_index_or}
use Rattle.std.specs.Borrow.{Bor}
use Rattle.std.specs.Str.{bytes_eq}
use Rattle.std.proofs.lemmas.Slice.Eq.{bytes_eq-Decides}
use Rattle.sv_load.specs.Load.{Load}
use Rattle.sv_stream.specs.declared.end.End.{End}
use Rattle.sv_stream.specs.declared.end.End.TheVariants as ends
use Rattle.sv_view.specs.declared.cut.Cut.{Cut}
use Rattle.sv_view.specs.declared.cut.Cut.TheVariants as cuts
use Rattle.sv_ring.specs.declared.story.Story.{Story}
use Rattle.sv_journal.specs.declared.journal.Item.{Item}
use Rattle.sv_cli.specs.declared.status.Status.{Status}
use Rattle.sv_cli.specs.declared.status.Status.TheVariants.{Usage}
use Rattle.sv_cli.specs.Answers.{Answers}
use Rattle.sv_view.specs.Text.{Text}
use Rattle.sv_cli.specs.Commands.{Request, show, live, play, generate, run, by_two, named_in}
use Rattle.sv_cli.specs.Commands.{by_three, most_of_piece, number_in, offline_of, show_request, shows}
use Rattle.sv_cli.specs.Recorded.{IsGenerated, IsRecorded}
use Rattle.sv_cli.specs.Status.{status_for}

no_end : (ended : Result End Cut) → Usage ≡ status_for ended → ⊥
no_end (Ok ends.Clean) is = absurd cc
no_end (Ok (ends.Truncated held)) is = absurd cc
no_end (Ok ends.NoSync) is = absurd cc
no_end (Ok (ends.Damaged place reason)) is = absurd cc
no_end (Err cuts.Unread) is = absurd cc
no_end (Err cuts.TooLong) is = absurd cc
no_end (Err cuts.Unwritten) is = absurd cc
no_end (Err cuts.NoMemory) is = absurd cc

no_recording : (happens : Load → List Item → Type 0) (makes : Load → List Item → List ℕ → Type 0)
    (file taken : List ℕ) (old new : Option (List ℕ)) (items : List Item) (status : Status)
    → status ≡ Usage → IsRecorded happens makes file taken old new items status → ⊥
no_recording happens makes file taken old new items status is so =
    let wrong : IsRecorded happens makes file taken old new items Usage =
    subst (λ (s : Status). IsRecorded happens makes file taken old new items s) is so in
    wrong.2

module _ (held : List ℕ → Option (List ℕ)) (left old new : Option (List ℕ))
    (before now : Option (List Story)) (items : List Item) (status : Status) where
  abbrev Answered : Request → Type 0
  Answered request = Answers held left request old new before now items status

  not_usage : (request : Request) → Answered request → status ≡ Usage → ⊥
  not_usage (show text name) a is = no_end a.0.ended (sym is ∙ a.0.is)
  not_usage (live size name) a is = no_end a.0.ended (sym is ∙ a.0.is)
  not_usage (play make name) a is = no_recording _ _ a.file a.taken old new items status is a.so
  not_usage (generate number) a is =
      subst (λ (s : Status). IsGenerated number old new items s) is a
  not_usage (run name) a is = no_recording _ _ a.file a.taken old new items status is a.so

  -- words are to blame only where they ask for nothing
  pub nothing_asked : (asked : Option Request) → IfSome asked Answered → status ≡ Usage
      → asked ≡ None
  nothing_asked None a is = refl
  nothing_asked (Some request) a is = absurd (not_usage request a is)

-- what is said of no request
pub of_none : {P : Type 0} (asked : Option Request) → IfNone asked P → asked ≡ None → P
of_none None p is = p
of_none (Some request) p is = absurd cc

-- a fact of a request is one of an equal one
pub some_as : (P : Request → Type 0) (asked same : Option Request) → asked ≡ same → IfSome same P
    → IfSome asked P
some_as P asked same is p = subst (λ (a : Option Request). IfSome a P) (sym is) p

pub none_as : (P : Type 0) (asked same : Option Request) → asked ≡ same → IfNone same P
    → IfNone asked P
none_as P asked same is p = subst (λ (a : Option Request). IfNone a P) (sym is) p

-- what is shown is the answer to the request of its view
pub show_answers : (Shown : Text → Type 0) (Replied : Request → Type 0) (found : Option Text)
    (file : List ℕ) → ((text : Text) → Shown text → Replied (show text file))
    → IfSome found Shown → IfSome (show_request found file) Replied
show_answers Shown Replied None file so shown = tt
show_answers Shown Replied (Some text) file so shown = so text shown

pub show_usage : {P : Type 0} (found : Option Text) (file : List ℕ) → (found ≡ None → P)
    → IfNone (show_request found file) P
show_usage None file so = so refl
show_usage (Some text) file so = tt

other_name : (name other : List ℕ) → (name ≡ other → ⊥) → bytes_eq other name ≡ false
other_name name other apart = by (bytes_eq other name) refl
  where
    by : (b : Bool) → bytes_eq other name ≡ b → bytes_eq other name ≡ false
    by true is = absurd (apart (sym ((bytes_eq-Decides other name).0 is)))
    by false is = is

-- two words that are no other command ask for a view
pub by_view : (name word : List ℕ) → (name ≡ codes "generate" → ⊥)
    → (name ≡ codes "simulate" → ⊥) → (name ≡ codes "record" → ⊥)
    → by_two name word ≡ show_request (named_in shows name) word
by_view name word number report recording =
    let no_number = other_name name (codes "generate") number in
    let no_report = other_name name (codes "simulate") report in
    let no_recording = other_name name (codes "record") recording in
    rw (no_number, no_report, no_recording) refl

-- three words ask for reports piece by piece
pub by_live : (name size file : List ℕ) (n : ℕ) → bytes_eq name (codes "live") ≡ true
    → Some n ≡ number_in most_of_piece size → by_three name size file ≡ Some (live n file)
by_live name size file n same is =
    let other : bytes_eq (codes "live") name ≡ true =
    (bytes_eq-Decides (codes "live") name).1 (sym ((bytes_eq-Decides name (codes "live")).0 same)) in
    rw (other, sym is) refl

-- too few words, and too many, ask for nothing
pub none_short : (words : List (Bor (List ℕ))) → length words < 2 → offline_of words ≡ None
none_short [] few = refl
none_short (name ∷ []) few = refl
none_short (name ∷ word ∷ rest) few =
    let no : ⊥ = omega (arith, few) in absurd no

pub none_long : (words : List (Bor (List ℕ))) → 3 < length words → offline_of words ≡ None
none_long [] many = refl
none_long (name ∷ []) many = refl
none_long (name ∷ word ∷ []) many =
    let no : ⊥ = omega (arith, many) in absurd no
none_long (name ∷ size ∷ file ∷ []) many =
    let no : ⊥ = omega (arith, many) in absurd no
none_long (name ∷ size ∷ file ∷ more ∷ rest) many = refl

-- what is said where no file is read
pub no_file : {P : Type 0} (file : Option (List ℕ)) → IfNone file P → file ≡ None → P
no_file None p is = p
no_file (Some name) p is = absurd cc

-- two words ask for what they ask for as two
pub two_are : (words : List (Bor (List ℕ))) (other : Bor (List ℕ)) → 2 ≤ length words
    → length words < 3
    → offline_of words
    ≡ by_two (slice_index_or words 0 other).now (slice_index_or words 1 other).now
two_are [] other some few =
    let no : ⊥ = omega (arith, some) in absurd no
two_are (name ∷ []) other some few =
    let no : ⊥ = omega (arith, some) in absurd no
two_are (name ∷ word ∷ []) other some few = refl
two_are (name ∷ word ∷ more ∷ rest) other some few =
    let no : ⊥ = omega (arith, few) in absurd no
