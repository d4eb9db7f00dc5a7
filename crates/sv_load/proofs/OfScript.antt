-- What holds of all steps holds of a writer's.
use Rattle.std.proofs.Common.{◌≡◌, ℕ, ◌<◌, List, [], length, sym, subst, All}
use Rattle.std.proofs.lemmas.List.Elements.{All-get_or}
use Rattle.sv_load.specs.declared.load.Step.{Step}
use Rattle.sv_load.specs.Load.{Load, script_of}

pub all_of_script : (P : Step → Type 0) (load : Load) (writer : ℕ) (steps : List Step)
    → All (λ script. All P script) load.scripts → writer < length load.scripts
    → steps ≡ script_of load writer → All P steps
all_of_script P load writer steps all there is =
    subst (All P) (sym is) (All-get_or (λ (script : List Step). All P script) load.scripts writer []
    there all)
