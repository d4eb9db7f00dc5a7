-- From what was taken of a source to the file that it holds.
use Rattle.std.proofs.Common.{◌≡◌, ℕ, List, [], ◌++◌, Option, Some, None, refl, sym, ap, ◌∙◌, subst}
use Rattle.std.proofs.Common.{append-nil}
use Rattle.std.specs.Io.KnownBytes.{Consumes, IsAtEnd}
use Rattle.sv_view.specs.Files.{HasTaken, OfFile}

-- of what a source has lost since the file was begun
pub of_taken : (held left0 left : Option (List ℕ)) (taken : List ℕ)
    (fact : List ℕ → List ℕ → Type 0)
    → left0 ≡ held → Consumes left0 left taken
    → ((file rest : List ℕ) → file ≡ taken ++ rest → (IsAtEnd left → taken ≡ file) → fact file
    taken) → OfFile held left fact
of_taken None left0 left taken fact begun read so =
    record {
      file = taken;
      taken = taken;
      rest = [];
      known = tt;
      front = sym (append-nil taken);
      read = tt;
      so = so taken [] (sym (append-nil taken)) (λ ended. refl);
    }
of_taken (Some file) left0 left taken fact begun read so =
    by left (subst (λ (l : Option (List ℕ)). Consumes l left taken) begun read) so
  where
    by : (left : Option (List ℕ)) → Consumes (Some file) left taken →
        ((file rest : List ℕ) → file ≡ taken ++ rest → (IsAtEnd left → taken ≡ file) → fact file
        taken) → OfFile (Some file) left fact
    by None read so = absurd read
    by (Some rest) read so =
        record {
          file = file;
          taken = taken;
          rest = rest;
          known = refl;
          front = read;
          read = read;
          so = so file rest read
              (λ ended. sym (read ∙ ap (λ (k : List ℕ). taken ++ k) ended ∙ append-nil taken));
        }

-- of a file that could not be begun
pub of_nothing : (held left : Option (List ℕ)) (fact : List ℕ → List ℕ → Type 0) → left ≡ None
    → ((file : List ℕ) → fact file []) → OfFile held left fact
of_nothing None left fact none so =
    record { file = []; taken = []; rest = []; known = tt; front = refl; read = tt; so = so [] }
of_nothing (Some file) left fact none so =
    record {
      file = file;
      taken = [];
      rest = file;
      known = refl;
      front = refl;
      read = subst
          (λ (l : Option (List ℕ)). HasTaken (Some file) l []) (sym none) refl;
      so = so file;
    }
