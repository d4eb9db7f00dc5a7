-- The open frames, when one more role comes at the end: a stack.
use Rattle.std.proofs.Common.{◌≡◌, ℕ, zero, suc, ◌+◌, ◌-◌, List, [], ◌∷◌, ◌++◌, length, take, refl}
use Rattle.std.proofs.Common.{sym, ap, ◌∙◌, append_assoc, arith}
use Rattle.std.specs.Prelude.{Bool, true, false, cond, ◌||◌, nat_le, count_by, option_to_list}
use Rattle.std.specs.Prelude.{if◌then◌else◌}
use Rattle.std.specs.List.{list_any}
use Rattle.std.proofs.lemmas.Bool.Decides.{nat_tests}
use Rattle.std.proofs.lemmas.List.Folds.{list_any-append}
use Rattle.sv_context.specs.declared.context.Context.{Context}
use Rattle.sv_context.specs.Role.{Role, base, enter, exit, nothing, is_base, is_enter, is_exit}
use Rattle.sv_context.specs.Role.{frame_of}
use Rattle.sv_context.specs.Context.{is_open_after, open_frames}
use Rattle.sv_context.proofs.Short.{count_cons, short_by, open_by_short, short-nothing, short-enter}
use Rattle.sv_context.proofs.Short.{short-exit}

open_when_free : (roles : List Role) → list_any is_base roles ≡ false
    → is_open_after roles ≡ nat_le (short_by roles) 0
open_when_free roles free = open_by_short roles ∙ rw free refl

closed_when_based : (roles : List Role) → list_any is_base roles ≡ true
    → is_open_after roles ≡ false
closed_when_based roles based = open_by_short roles ∙ rw based refl

based_more : (roles : List Role) (role : Role) (t : Bool) → is_base role ≡ false
    → list_any is_base roles ≡ t → list_any is_base (roles ++ role ∷ []) ≡ t
based_more roles role true plain is = list_any-append is_base roles (role ∷ []) ∙ rw is refl
based_more roles role false plain is = list_any-append is_base roles (role ∷ [])
    ∙ rw (is, plain) refl

open-nothing : (roles : List Role) → is_open_after (roles ++ nothing ∷ []) ≡ is_open_after roles
open-nothing roles = open_by_short (roles ++ nothing ∷ []) ∙ rw (
  based_more roles nothing (list_any
      is_base roles) refl refl,
  short-nothing roles,
) (sym (open_by_short roles))

open-enter : (roles : List Role) (c : Context) → is_open_after (roles ++ enter c ∷ [])
    ≡ is_open_after roles
open-enter roles c = open_by_short (roles ++ enter c ∷ []) ∙ rw (
  based_more roles (enter c)
      (list_any is_base roles) refl refl,
  short-enter roles c,
) (sym (open_by_short roles))

or_true : (t : Bool) → (t || true) ≡ true
or_true true = refl
or_true false = refl

open-base : (roles : List Role) (c : Context) → is_open_after (roles ++ base c ∷ []) ≡ false
open-base roles c = closed_when_based (roles ++ base c ∷ []) (list_any-append is_base roles (base c
    ∷ []) ∙ or_true (list_any is_base roles))

-- nothing changes
pub frames-nothing : (roles : List Role) → open_frames (roles ++ nothing ∷ []) ≡ open_frames roles
frames-nothing [] = refl
frames-nothing (role ∷ later) = rw (open-nothing later, frames-nothing later) refl

-- an enter goes on top
pub frames-enter : (roles : List Role) (c : Context) → open_frames (roles ++ enter c ∷ [])
    ≡ open_frames roles ++ c ∷ []
frames-enter [] c = refl
frames-enter (role ∷ later) c = rw (open-enter later c, frames-enter later c) (sym (append_assoc
    (if is_open_after later then option_to_list (frame_of role) else []) (open_frames later)
    (c ∷ [])))

-- a base closes all
pub frames-base : (roles : List Role) (c : Context) → open_frames (roles ++ base c ∷ []) ≡ []
frames-base [] c = refl
frames-base (role ∷ later) c = rw (open-base later c, frames-base later c) refl

-- how many frames are open
frames_enter_is : (t : Bool) (c : Context) (later : List Role) → is_open_after later ≡ t
    → open_frames (enter c ∷ later) ≡ cond t (c ∷ open_frames later) (open_frames later)
frames_enter_is true c later e = rw e refl
frames_enter_is false c later e = rw e refl

no_frame : (t : Bool) (frames : List Context) → (if t then [] else []) ++ frames ≡ frames
no_frame true frames = refl
no_frame false frames = refl

abbrev Counts : List Role → Type 0
Counts roles = length (open_frames roles) + count_by is_exit roles ≡ count_by is_enter roles +
    short_by roles

count_enter : (s : ℕ) (c : Context) (roles : List Role) → short_by roles ≡ s
    → list_any is_base roles ≡ false → Counts roles → Counts (enter c ∷ roles)
count_enter zero c roles is free counts =
    let open_ : is_open_after roles ≡ true = open_when_free roles free ∙ rw is refl in
    let more : length (open_frames (enter c ∷ roles)) ≡ 1 + length (open_frames roles) =
    ap length (frames_enter_is true c roles open_) ∙ omega arith in
    omega (
      arith,
      more,
      counts,
      is,
      count_cons is_exit (enter c) roles,
      count_cons is_enter (enter
          c) roles,
    )
count_enter (suc s) c roles is free counts =
    let closed : is_open_after roles ≡ false = open_when_free roles free
    ∙ rw is (grind (arith, nat_tests)) in
    let same : length (open_frames (enter c ∷ roles)) ≡ length (open_frames roles) =
    ap length (frames_enter_is false c roles closed) in
    omega (
      arith,
      same,
      counts,
      is,
      count_cons is_exit (enter c) roles,
      count_cons is_enter (enter
          c) roles,
    )

count_other : (role : Role) (roles : List Role) → frame_of role ≡ frame_of nothing
    → is_enter role ≡ false → length (open_frames (role ∷ roles)) ≡ length (open_frames roles)
count_other role roles none unentered = ap length (rw none (no_frame (is_open_after roles)
    (open_frames roles)))

counts_of : (roles : List Role) → list_any is_base roles ≡ false → Counts roles
counts_of [] free = refl
counts_of (base c ∷ roles) free = absurd cc
counts_of (enter c ∷ roles) free = count_enter (short_by roles) c roles refl free (counts_of roles
    free)
counts_of (exit ∷ roles) free = omega (
  arith,
  count_other exit roles refl refl,
  counts_of roles
      free,
  count_cons is_exit exit roles,
  count_cons is_enter exit roles,
)
counts_of (nothing ∷ roles) free = omega (
  arith,
  count_other nothing roles refl refl,
  counts_of
      roles free,
  count_cons is_exit nothing roles,
  count_cons is_enter nothing roles,
)

-- all but the last
abbrev pub without_last : List Context → List Context
without_last frames = take (length frames - 1) frames

no_elements : (xs : List Context) → length xs ≡ 0 → xs ≡ []
no_elements [] e = refl
no_elements (x ∷ xs) e = absurd (omega arith)

keep_first : (c : Context) (m : ℕ) (frames : List Context) → length frames ≡ suc m
    → c ∷ without_last frames ≡ without_last (c ∷ frames)
keep_first c m frames e =
    let a : length frames - 1 ≡ m = omega arith in
    let b : length (c ∷ frames) - 1 ≡ suc m = omega arith in
    rw (a, b) refl

pop_enter : (b : Bool) (s n : ℕ) (c : Context) (later : List Role) → list_any is_base later ≡ b
    → short_by later ≡ s → length (open_frames later) ≡ n
    → open_frames (later ++ exit ∷ []) ≡ without_last (open_frames later)
    → open_frames (enter c ∷ (later ++ exit ∷ [])) ≡ without_last (open_frames (enter c ∷
    later))
pop_enter true s n c later based is many popped =
    let a = frames_enter_is false c (later ++ exit ∷ []) (closed_when_based (later ++ exit ∷ [])
    (based_more later exit true refl based)) in
    let z = frames_enter_is false c later (closed_when_based later based) in
    a ∙ popped ∙ ap without_last (sym z)
pop_enter false (suc s) n c later free is many popped =
    let more : short_by (later ++ exit ∷ []) ≡ suc (short_by (later ++ exit ∷ []) - 1) =
    omega (arith, short-exit later, is) in
    let a = frames_enter_is false c (later ++ exit ∷ []) (open_when_free (later ++ exit ∷ [])
    (based_more later exit false refl free) ∙ rw more (grind (arith, nat_tests))) in
    let z = frames_enter_is false c later (open_when_free later free
    ∙ rw is (grind (arith, nat_tests))) in
    a ∙ popped ∙ ap without_last (sym z)
pop_enter false zero zero c later free is many popped =
    let one : short_by (later ++ exit ∷ []) ≡ 1 = omega (
      arith,
      short-exit later,
      is,
      many,
      counts_of later free,
    ) in
    let a = frames_enter_is false c (later ++ exit ∷ []) (open_when_free (later ++ exit ∷ [])
    (based_more later exit false refl free) ∙ rw one refl) in
    let z = frames_enter_is true c later (open_when_free later free ∙ rw is refl) in
    let none = no_elements (open_frames later) many in
    a ∙ popped ∙ rw none refl ∙ ap without_last (sym (z ∙ ap (λ frames. c ∷ frames) none))
pop_enter false zero (suc m) c later free is many popped =
    let none : short_by (later ++ exit ∷ []) ≡ 0 = omega (
      arith,
      short-exit later,
      is,
      many,
      counts_of later free,
    ) in
    let a = frames_enter_is true c (later ++ exit ∷ []) (open_when_free (later ++ exit ∷ [])
    (based_more later exit false refl free) ∙ rw none refl) in
    let z = frames_enter_is true c later (open_when_free later free ∙ rw is refl) in
    a ∙ ap (λ frames. c ∷ frames) popped ∙ keep_first c m (open_frames later) many
    ∙ ap without_last (sym z)

-- an exit closes the last
pub frames-exit : (roles : List Role) → open_frames (roles ++ exit ∷ []) ≡ without_last (open_frames
    roles)
frames-exit [] = refl
frames-exit (base c ∷ later) = no_frame (is_open_after (later ++ exit ∷ [])) (open_frames (later ++
    exit ∷ [])) ∙ frames-exit later ∙ ap without_last (sym (no_frame (is_open_after later)
    (open_frames later)))
frames-exit (enter c ∷ later) = pop_enter (list_any is_base later) (short_by later) (length
    (open_frames later)) c later refl refl refl (frames-exit later)
frames-exit (exit ∷ later) = no_frame (is_open_after (later ++ exit ∷ [])) (open_frames (later ++
    exit ∷ [])) ∙ frames-exit later ∙ ap without_last (sym (no_frame (is_open_after later)
    (open_frames later)))
frames-exit (nothing ∷ later) = no_frame (is_open_after (later ++ exit ∷ [])) (open_frames (later ++
    exit ∷ [])) ∙ frames-exit later ∙ ap without_last (sym (no_frame (is_open_after later)
    (open_frames later)))
