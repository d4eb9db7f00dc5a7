-- Keywords are told apart by how they are spelled, and lines are counted by them.
use Rattle.std.proofs.Common.{◌≡◌, ℕ, Bool, true, false, cond, List, [], ◌∷◌, ◌++◌, refl, sym}
use Rattle.std.proofs.Common.{ap, ◌∙◌}
use Rattle.std.specs.Prelude.{map, find, unwrap_or, bytes_eq, length, ◌==◌, Some}
use Rattle.std.proofs.lemmas.Bool.{false_from_ne_true, eq-eqb}
use Rattle.std.proofs.lemmas.Slice.Eq.{bytes_eq-Decides}
use Rattle.sv_workload.specs.declared.keyword.SetupWord.TheVariants.{Ring, Clock, Cpu, Base, Shift}
use Rattle.sv_workload.specs.declared.keyword.SetupWord.TheVariants.{Time, Desc, Task, Module}
use Rattle.sv_workload.specs.declared.keyword.SetupWord.TheVariants.{Command}
use Rattle.sv_workload.specs.declared.keyword.ActWord.TheVariants.{Start, Stop, Nop, Isr, IsrExit}
use Rattle.sv_workload.specs.declared.keyword.ActWord.TheVariants.{Run, Halt, Ready, Unready}
use Rattle.sv_workload.specs.declared.keyword.ActWord.TheVariants.{Create, Terminate, Mark, MarkEnd}
use Rattle.sv_workload.specs.declared.keyword.ActWord.TheVariants.{Idle, Sched, Timer, TimerExit}
use Rattle.sv_workload.specs.declared.keyword.ActWord.TheVariants.{Name, Print, Call, Return}
use Rattle.sv_workload.specs.declared.keyword.TurnWord.TheVariants.{Step, Read, Send}
use Rattle.sv_workload.specs.declared.keyword.Keyword.{Keyword}
use Rattle.sv_workload.specs.declared.keyword.Keyword.TheVariants.{Setup, Writer, Act, Schedule}
use Rattle.sv_workload.specs.declared.keyword.Keyword.TheVariants.{Turn, Unknown}
use Rattle.sv_workload.specs.Keywords.{step_keywords, spelling, is_same, keyword_among, of_length}

-- all that can be spelled
abbrev every_keyword : List Keyword
every_keyword =
    step_keywords ++ (map Setup
    (Ring ∷ Clock ∷ Cpu ∷ Base ∷ Shift ∷ Time ∷ Desc ∷ Task ∷ Module ∷ Command ∷ []) ++
    (Writer ∷ Schedule ∷ map Turn (Step ∷ Read ∷ Send ∷ [])))

read_back : (k : Keyword) → keyword_among every_keyword (spelling k) ≡ k
read_back (Setup Ring) = refl
read_back (Setup Clock) = refl
read_back (Setup Cpu) = refl
read_back (Setup Base) = refl
read_back (Setup Shift) = refl
read_back (Setup Time) = refl
read_back (Setup Desc) = refl
read_back (Setup Task) = refl
read_back (Setup Module) = refl
read_back (Setup Command) = refl
read_back Writer = refl
read_back (Act Start) = refl
read_back (Act Stop) = refl
read_back (Act Nop) = refl
read_back (Act Isr) = refl
read_back (Act IsrExit) = refl
read_back (Act Run) = refl
read_back (Act Halt) = refl
read_back (Act Ready) = refl
read_back (Act Unready) = refl
read_back (Act Create) = refl
read_back (Act Terminate) = refl
read_back (Act Mark) = refl
read_back (Act MarkEnd) = refl
read_back (Act Idle) = refl
read_back (Act Sched) = refl
read_back (Act Timer) = refl
read_back (Act TimerExit) = refl
read_back (Act Name) = refl
read_back (Act Print) = refl
read_back (Act Call) = refl
read_back (Act Return) = refl
read_back Schedule = refl
read_back (Turn Step) = refl
read_back (Turn Read) = refl
read_back (Turn Send) = refl
read_back Unknown = refl

-- keywords that are spelled alike are one
pub same_keyword : (a b : Keyword) → is_same a b ≡ true → a ≡ b
same_keyword a b e =
    sym (read_back a) ∙ ap (keyword_among every_keyword)
    ((bytes_eq-Decides (spelling a) (spelling b)).0 e) ∙ read_back b

-- keywords that are not one are spelled in two ways
pub differs : (a b : Keyword) → (a ≡ b → ⊥) → is_same a b ≡ false
differs a b other = false_from_ne_true (is_same a b) (λ e. other (same_keyword a b e))

-- a word spells no keyword of another length
pub among_of_length : (keywords : List Keyword) (word : List ℕ)
    → keyword_among (of_length (length word) keywords) word ≡ keyword_among keywords word
among_of_length [] word = refl
among_of_length (k ∷ keywords) word =
    by (length (spelling k) == length word) refl (bytes_eq (spelling k) word) refl
    (among_of_length keywords word)
  where
    by : (long : Bool) → (length (spelling k) == length word) ≡ long → (same : Bool) → bytes_eq
        (spelling k) word ≡ same
        → keyword_among (of_length (length word) keywords) word ≡ keyword_among keywords word
        → keyword_among (cond long (k ∷ of_length (length word) keywords)
        (of_length (length word) keywords)) word ≡ unwrap_or
        (cond same (Some k) (find (λ k. bytes_eq (spelling k) word) keywords)) Unknown
    by true l true s more = rw s refl
    by true l false s more = rw s more
    by false l true s more =
        let equal : length (spelling k) ≡ length word = ap length
        ((bytes_eq-Decides (spelling k) word).0 s) in
        absurd (let n : false ≡ true = sym l ∙ eq-eqb (length (spelling k)) (length word) equal in
        cc)
    by false l false s more = more
