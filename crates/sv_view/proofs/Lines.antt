-- What is written of some entries, and of more after them.
use Rattle.std.proofs.Common.{◌≡◌, ℕ, List, [], ◌∷◌, ◌++◌, Option, sym, ap, ◌∙◌, subst}
use Rattle.std.proofs.Common.{append_assoc, append-nil, Result, Ok, Err}
use Rattle.std.specs.Prelude.{OnOk}
use Rattle.sv_feed.specs.Feed.{GrowsBy}
use Rattle.sv_base.specs.Streams.{AppendsPart}
use Rattle.sv_stream.specs.declared.seen.Seen.{Seen}
use Rattle.sv_view.specs.Text.{Text, lines_after, lines_of}
use Rattle.sv_view.proofs.Parts.{part_more}

pub lines_after-append : (text : Text) (earlier entries more : List Seen)
    → lines_after text earlier (entries ++ more) ≡ lines_after text earlier entries ++ lines_after
    text (earlier ++ entries) more
lines_after-append text earlier [] more =
    ap (λ (es : List Seen). lines_after text es more) (sym (append-nil earlier))
lines_after-append text earlier (e ∷ entries) more =
    ap (λ (k : List ℕ). text.line earlier e ++ k)
    (lines_after-append text (earlier ++ e ∷ []) entries more)
    ∙ sym (append_assoc (text.line earlier e) (lines_after text (earlier ++ e ∷ []) entries)
    (lines_after text ((earlier ++ e ∷ []) ++ entries) more))
    ∙ ap (λ (es : List Seen).
    (text.line earlier e ++ lines_after text (earlier ++ e ∷ []) entries) ++ lines_after text es
    more) (append_assoc earlier (e ∷ []) entries)

pub lines_after-push : (text : Text) (earlier entries : List Seen) (one : Seen)
    → lines_after text earlier (entries ++ one ∷ []) ≡ lines_after text earlier entries ++ text.line
    (earlier ++ entries) one
lines_after-push text earlier entries one =
    lines_after-append text earlier entries (one ∷ [])
    ∙ ap (λ (k : List ℕ). lines_after text earlier entries ++ k)
    (append-nil (text.line (earlier ++ entries) one))

-- a part of the lines of the first entries is a part of those of all
pub part_of_lines : (text : Text) (old now : Option (List ℕ)) (given more entries : List Seen)
    → entries ≡ given ++ more
    → AppendsPart old now (lines_of text given) → AppendsPart old now (lines_of text entries)
part_of_lines text old now given more entries is part =
    subst (AppendsPart old now)
    (sym (ap (lines_of text) is ∙ lines_after-append text [] given more))
    (part_more old now (lines_of text given) (lines_after text given more) part)

-- the line of an entry more
pub line_grown : (text : Text) (earlier : List Seen) (one : Seen) (before after : List ℕ)
    → after ≡ before ++ text.line earlier one
    → GrowsBy (lines_of text) earlier (one ∷ []) before after
line_grown text earlier one before after is =
    (text.line earlier one, is, lines_after-push text [] earlier one)

-- where it was made
pub line_more : {E : Type 0} (text : Text) (earlier : List Seen) (one : Seen)
    (result : Result Unit E) (before after : List ℕ)
    → OnOk result (after ≡ before ++ text.line earlier one)
    → OnOk result (GrowsBy (lines_of text) earlier (one ∷ []) before after)
line_more text earlier one (Ok unit) before after is =
    line_grown text earlier one before after is
line_more text earlier one (Err e) before after is = tt
