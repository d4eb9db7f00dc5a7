-- There is one timeline.
use Rattle.std.proofs.Common.{◌≡◌, ◌≢◌, ℕ, zero, suc, ◌-◌, ◌<◌, ◌≤◌, List, [], ◌∷◌, ◌++◌, map, refl}
use Rattle.std.proofs.Common.{sym, ap, ◌∙◌, arith}
use Rattle.std.specs.Prelude.{Bool, true, false, not, ◌&&◌, ◌==◌, replicate, flat_map, slice_get}
use Rattle.std.specs.Prelude.{Some}
use Rattle.std.proofs.lemmas.Bool.Decides.{nat_tests}
use Rattle.sv_packet.specs.declared.event.TimedEvent.{TimedEvent}
use Rattle.sv_context.specs.declared.context.Context.{Context}
use Rattle.sv_context.specs.Order.{is_same_context, rank_of}
use Rattle.sv_timeline.specs.declared.span.Span.{Span}
use Rattle.sv_packet.specs.Events.{last_time}
use Rattle.sv_timeline.specs.Timeline.{ticks_in, AreInRow, are_apart, IsTimeline}

runs_once : (m n : ℕ) (c : Context) (x y : List Context) → replicate m c ++ x ≡ replicate n c ++ y
    → slice_get x 0 ≢ Some c → slice_get y 0 ≢ Some c → (m ≡ n) × (x ≡ y)
runs_once zero zero c x y e f g = (refl, e)
runs_once zero (suc n) c x y e f g = absurd (f (ap (λ (list : List Context). slice_get list 0) e))
runs_once (suc m) zero c x y e f g = absurd (g (ap (λ (list : List Context). slice_get list 0)
    (sym e)))
runs_once (suc m) (suc n) c x y e f g =
    let tails : replicate m c ++ x ≡ replicate n c ++ y = cc in
    let more = runs_once m n c x y tails f g in
    (ap suc more.0, more.1)

same_numbers : (a b : ℕ) → ((a == a) && (b == b)) ≡ true
same_numbers a b = grind (arith, nat_tests)

pub same_self : (c : Context) → is_same_context c c ≡ true
same_self c = same_numbers (rank_of c).0 (rank_of c).1

pub row_le : (start end : ℕ) (spans : List Span) → AreInRow start spans end → start ≤ end
row_le start end [] row = omega (arith, row)
row_le start end (s ∷ spans) row = let rest = row_le s.end end spans row.2 in omega (
  arith,
  row.1,
  rest,
)

and_first : (s t : Bool) → (s && t) ≡ true → s ≡ true
and_first true t e = refl
and_first false t e = absurd cc

and_second : (s t : Bool) → (s && t) ≡ true → t ≡ true
and_second true t e = e
and_second false t e = absurd cc

abbrev names : List Span → List Context
names spans = map (λ s. s.context) spans

-- a span that isn't empty begins with its context
head_of : (n : ℕ) (c : Context) (rest : List Context) → 0 < n → slice_get (replicate n c ++ rest) 0
    ≡ Some c
head_of zero c rest some = absurd (omega arith)
head_of (suc n) c rest some = refl

-- what follows a span begins otherwise
begins_otherwise : (c : Context) (start end : ℕ) (spans : List Span) → AreInRow start spans end
    → are_apart (c ∷ names spans) ≡ true → slice_get (flat_map ticks_in spans) 0 ≢ Some c
begins_otherwise c start end [] row apart e = absurd cc
begins_otherwise c start end (s ∷ spans) row apart e =
    let head : slice_get (flat_map ticks_in (s ∷ spans)) 0 ≡ Some s.context =
    head_of (s.end - s.start) s.context (flat_map ticks_in spans) (omega (arith, row.0, row.1))
    in
    let same : s.context ≡ c = cc in
    let differ : not (is_same_context c s.context) ≡ true = and_first _ _ apart in
    let equal : is_same_context c s.context ≡ true = ap (is_same_context c) same ∙ same_self c in
    let wrong : not true ≡ true = ap not (sym equal) ∙ differ in
    absurd cc

apart_rest : (c : Context) (spans : List Span) → are_apart (c ∷ names spans) ≡ true
    → are_apart (names spans) ≡ true
apart_rest c [] apart = refl
apart_rest c (s ∷ spans) apart = and_second _ _ apart

rows_once : (start end : ℕ) (xs ys : List Span) → AreInRow start xs end → AreInRow start ys end
    → flat_map ticks_in xs ≡ flat_map ticks_in ys → are_apart (names xs) ≡ true
    → are_apart (names ys) ≡ true → xs ≡ ys
rows_once start end [] [] row other same apart apart2 = refl
rows_once start end [] (y ∷ ys) row other same apart apart2 = let rest = row_le y.end end ys other.2
    in absurd (omega (arith, row, other.1, rest))
rows_once start end (x ∷ xs) [] row other same apart apart2 = let rest = row_le x.end end xs row.2
    in absurd (omega (arith, other, row.1, rest))
rows_once start end (x ∷ xs) (y ∷ ys) row other same apart apart2 =
    let head_x : slice_get (flat_map ticks_in (x ∷ xs)) 0 ≡ Some x.context =
    head_of (x.end - x.start) x.context (flat_map ticks_in xs) (omega (arith, row.0, row.1)) in
    let head_y : slice_get (flat_map ticks_in (y ∷ ys)) 0 ≡ Some y.context =
    head_of (y.end - y.start) y.context (flat_map ticks_in ys) (omega (arith, other.0, other.1))
    in
    let heads : Some x.context ≡ Some y.context = sym head_x
    ∙ ap (λ (list : List Context). slice_get list 0) same ∙ head_y in
    let contexts : x.context ≡ y.context = cc in
    let whole : replicate (x.end - x.start) x.context ++ flat_map ticks_in xs
    ≡ replicate (y.end - y.start) x.context ++ flat_map ticks_in ys
    = same ∙ ap (λ (c : Context). replicate (y.end - y.start) c ++ flat_map ticks_in ys)
    (sym contexts) in
    let apart_y : are_apart (x.context ∷ names ys) ≡ true = ap (λ (c : Context). are_apart
    (c ∷ names ys)) contexts ∙ apart2 in
    let one = runs_once (x.end - x.start) (y.end - y.start) x.context (flat_map ticks_in xs)
    (flat_map ticks_in ys) whole (begins_otherwise x.context x.end end xs row.2 apart)
    (begins_otherwise x.context y.end end ys other.2 apart_y) in
    let starts : x.start ≡ y.start = row.0 ∙ sym other.0 in
    let lengths : x.end - x.start ≡ y.end - y.start = one.0 in
    let ends : x.end ≡ y.end = omega (arith, starts, lengths, row.0, row.1, other.0, other.1) in
    let spans : x ≡ y = λ i. record { start = starts i; end = ends i; context = contexts i } in
    let moved : AreInRow x.end ys end = rw ends other.2 in
    let rest : xs ≡ ys = rows_once x.end end xs ys row.2 moved one.1 (apart_rest x.context xs apart)
    (apart_rest y.context ys apart2) in
    λ i. spans i ∷ rest i

pub timeline_once : (events : List TimedEvent) (xs ys : List Span) → IsTimeline events xs
    → IsTimeline events ys → xs ≡ ys
timeline_once events xs ys a b = rows_once 0 (last_time events) xs ys a.row b.row (a.ticks
    ∙ sym b.ticks) a.apart b.apart
