-- A reader at a whole payload: whether it is a form of its identifier.
use Rattle.std.proofs.Common.{◌≡◌, ◌≢◌, ℕ, ◌+◌, ◌<◌, ◌≤◌, Bool, true, false, List, length, Option}
use Rattle.std.proofs.Common.{Some, None, sym, ap, subst, ◌∙◌, arith}
use Rattle.sv_prim.specs.Number.{IsNumber, number_reason}
use Rattle.sv_prim.specs.Text.{IsText}
use Rattle.sv_prim.specs.TextAt.{text_reason}
use Rattle.sv_prim.specs.Code.{IsPrefixFree}
use Rattle.sv_prim.proofs.Shared.{number_free, text_free}
use Rattle.sv_packet.specs.declared.event.Event.TheVariants as event
use Rattle.sv_packet.specs.declared.reader.Reader.{Reader}
use Rattle.sv_packet.specs.declared.reader.Stop.{Stop}
use Rattle.sv_packet.specs.Table.{fields}
use Rattle.sv_packet.specs.Packet.{AreFields, IsForm}
use Rattle.sv_packet.specs.Shape.{number_count, ends_in_text, fields_by}
use Rattle.sv_packet.specs.Parts.{AreNumbers, IsTextIf}
use Rattle.sv_packet.specs.Forms.{IsRegularForm}
use Rattle.sv_packet.specs.Reader.{left, TakesPart, Stops}
use Rattle.sv_packet.proofs.how_long.Counts.{numbers_free}
use Rattle.sv_packet.proofs.told_of_parts.Payloads.{regular_fields, form_regular, IsArguments, IsOptions}
use Rattle.sv_packet.proofs.told_of_parts.Payloads.{form_print, fields_print, IsNumberOrNone, form_end}
use Rattle.sv_packet.proofs.told_of_parts.Payloads.{fields_end}
use Rattle.sv_packet.proofs.told_of_parts.Whole.{stops_none, takes_less, takes_all, stops_pair, rest_after}
use Rattle.sv_packet.proofs.told_of_parts.Whole.{pair_all, end_stays}

pub text_if_free : (there : Bool) → IsPrefixFree (IsTextIf there)
text_if_free true u v a b x y p q e = text_free u v a b x y p q e
text_if_free false u v a b x y p q e = (p.1 ∙ sym q.1, p.0 ∙ sym q.0)

-- ---- numbers and a text or none

module _ (id count : ℕ) (there : Bool) (is_count : count ≡ number_count id)
    (is_there : there ≡ ends_in_text id) (form : IsRegularForm id) (old : Reader) where
  is_numbers : (new : Reader) (ns : List ℕ) → TakesPart (AreNumbers count) old new ns →
      TakesPart (AreNumbers (number_count id)) old new ns
  is_numbers new ns t = subst (λ (k : ℕ). TakesPart (AreNumbers k) old new ns) is_count t

  pub regular_numbers_stop : (stop : Stop) → Stops (AreNumbers count) number_reason old stop →
      IsForm id (left old) → ⊥
  regular_numbers_stop stop p f =
      let (v, pair) = form_regular id (left old) form f in
      stops_pair (AreNumbers (number_count id)) (λ (ns : List ℕ). IsTextIf (ends_in_text id))
      (numbers_free (number_count id)) number_reason old stop
      (subst (λ (k : ℕ). Stops (AreNumbers k) number_reason old stop) is_count p) v pair

  regular_rest : (mid : Reader) (ns : List ℕ) → TakesPart (AreNumbers count) old mid ns →
      IsForm id (left old) → (t : List ℕ) × IsTextIf there t (left mid)
  regular_rest mid ns t f =
      let (v, pair) = form_regular id (left old) form f in (
        v.1,
        subst (λ (b : Bool). IsTextIf b v.1 (left mid)) (sym is_there)
            (rest_after (AreNumbers (number_count id)) (λ (ns : List ℕ). IsTextIf (ends_in_text id))
            (numbers_free (number_count id)) old mid ns (is_numbers mid ns t) v pair),
      )

  pub regular_text_stop : (mid : Reader) (ns : List ℕ) (stop : Stop) →
      TakesPart (AreNumbers count) old mid ns → Stops (IsTextIf there) text_reason mid stop →
      IsForm id (left old) → ⊥
  regular_text_stop mid ns stop t p f = let (text, s) = regular_rest mid ns t f in
      stops_none (IsTextIf there) (text_if_free there) text_reason mid stop p text s

  pub regular_less : (mid new : Reader) (ns text : List ℕ) → TakesPart (AreNumbers count) old mid ns →
      TakesPart (IsTextIf there) mid new text → new.at < old.at + length (left old) →
      IsForm id (left old) → ⊥
  regular_less mid new ns text t u less f =
      let (other, s) = regular_rest mid ns t f in
      takes_less (IsTextIf there) (text_if_free there) mid new text u
      (omega (arith, less, end_stays (AreNumbers count) old mid ns t)) other s

  pub regular_all : (mid new : Reader) (ns text : List ℕ) → TakesPart (AreNumbers count) old mid ns →
      TakesPart (IsTextIf there) mid new text → old.at + length (left old) ≤ new.at →
      AreFields (fields_by id ns text) (left old)
  regular_all mid new ns text t u all =
      let s = takes_all (IsTextIf there) (text_if_free there) mid new text u (omega (
        arith,
        all,
        end_stays (AreNumbers count) old mid ns t,
      )) in
      regular_fields id (ns, text) (left old)
      (pair_all (AreNumbers (number_count id)) (λ (ns : List ℕ). IsTextIf (ends_in_text id))
      (numbers_free (number_count id)) old mid ns text (is_numbers mid ns t)
      (subst (λ (b : Bool). IsTextIf b text (left mid)) is_there s))

-- ---- ends of calls

module _ (old : Reader) where
  pub end_stop : (stop : Stop) → Stops IsNumber number_reason old stop → IsForm 28 (left old) → ⊥
  end_stop stop p f = let (v, pair) = form_end (left old) f in
      stops_pair IsNumber (λ (call : ℕ). IsNumberOrNone) number_free number_reason old stop p v pair

  end_rest : (mid : Reader) (n : ℕ) → TakesPart IsNumber old mid n → IsForm 28 (left old) →
      (value : Option ℕ) × IsNumberOrNone value (left mid)
  end_rest mid n t f = let (v, pair) = form_end (left old) f in (
    v.1,
    rest_after IsNumber (λ (call : ℕ). IsNumberOrNone) number_free old mid n t v pair,
  )

  not_there : (mid : Reader) (stop : Stop) → Stops IsNumber number_reason mid stop →
      0 < length (left mid) → (value : Option ℕ) → IsNumberOrNone value (left mid) → ⊥
  not_there mid stop p some None s = omega (arith, some, ap length s)
  not_there mid stop p some (Some n) s =
      stops_none IsNumber number_free number_reason mid stop p n s

  pub end_value_stop : (mid : Reader) (n : ℕ) (stop : Stop) → TakesPart IsNumber old mid n →
      mid.at ≢ old.at + length (left old) → Stops IsNumber number_reason mid stop →
      IsForm 28 (left old) → ⊥
  end_value_stop mid n stop t more p f =
      let (value, s) = end_rest mid n t f in
      not_there mid stop p (omega (arith, more, end_stays IsNumber old mid n t)) value s

  more_there : (mid new : Reader) (n : ℕ) → TakesPart IsNumber mid new n →
      new.at < mid.at + length (left mid) → (value : Option ℕ) → IsNumberOrNone value (left mid) → ⊥
  more_there mid new n u less None s = omega (arith, less, ap length s, u.further)
  more_there mid new n u less (Some m) s = takes_less IsNumber number_free mid new n u less m s

  pub end_less : (mid new : Reader) (n m : ℕ) → TakesPart IsNumber old mid n →
      TakesPart IsNumber mid new m → new.at < old.at + length (left old) → IsForm 28 (left old) → ⊥
  end_less mid new n m t u less f =
      let (value, s) = end_rest mid n t f in
      more_there mid new m u (omega (arith, less, end_stays IsNumber old mid n t)) value s

  pub end_all : (mid new : Reader) (n m : ℕ) → TakesPart IsNumber old mid n → TakesPart IsNumber mid new m →
      old.at + length (left old) ≤ new.at → AreFields (fields (event.EndCall n (Some m))) (left old)
  end_all mid new n m t u all =
      let s = takes_all IsNumber number_free mid new m u (omega (
        arith,
        all,
        end_stays IsNumber old mid n t,
      )) in
      fields_end n (Some m) (left old)
      (pair_all IsNumber (λ (call : ℕ). IsNumberOrNone) number_free old mid n (Some m) t s)

-- ---- prints

module _ (old : Reader) where
  pub print_text_stop : (stop : Stop) → Stops IsText text_reason old stop → IsForm 26 (left old) → ⊥
  print_text_stop stop p f = let (v, pair) = form_print (left old) f in
      stops_pair IsText IsOptions text_free text_reason old stop p v pair

  print_options : (mid : Reader) (text : List ℕ) → TakesPart IsText old mid text →
      IsForm 26 (left old) → (v : ℕ × (ℕ × List ℕ)) × IsOptions text v (left mid)
  print_options mid text t f = let (v, pair) = form_print (left old) f in
      (v.1, rest_after IsText IsOptions text_free old mid text t v pair)

  pub print_options_stop : (mid : Reader) (text : List ℕ) (stop : Stop) →
      TakesPart IsText old mid text → Stops IsNumber number_reason mid stop → IsForm 26 (left old) → ⊥
  print_options_stop mid text stop t p f = let (v, pair) = print_options mid text t f in
      stops_pair IsNumber IsArguments number_free number_reason mid stop p v pair

  print_arguments : (m1 m2 : Reader) (text : List ℕ) (options : ℕ) → TakesPart IsText old m1 text →
      TakesPart IsNumber m1 m2 options → IsForm 26 (left old) →
      (v : ℕ × List ℕ) × IsArguments options v (left m2)
  print_arguments m1 m2 text options t u f = let (v, pair) = print_options m1 text t f in (
    v.1,
    rest_after IsNumber IsArguments number_free m1 m2 options u v pair,
  )

  pub print_count_stop : (m1 m2 : Reader) (text : List ℕ) (options : ℕ) (stop : Stop) →
      TakesPart IsText old m1 text → TakesPart IsNumber m1 m2 options →
      Stops IsNumber number_reason m2 stop → IsForm 26 (left old) → ⊥
  print_count_stop m1 m2 text options stop t u p f = let (v, pair) =
      print_arguments m1 m2 text options t u f in
      stops_pair IsNumber AreNumbers number_free number_reason m2 stop p v pair

  module _ (m1 m2 m3 : Reader) (text : List ℕ) (options count : ℕ) (t : TakesPart IsText old m1 text)
      (u : TakesPart IsNumber m1 m2 options) (w : TakesPart IsNumber m2 m3 count) where
    pub print_args : IsForm 26 (left old) → (args : List ℕ) × AreNumbers count args (left m3)
    print_args f = let (v, pair) = print_arguments m1 m2 text options t u f in (
      v.1,
      rest_after IsNumber AreNumbers number_free m2 m3 count w v pair,
    )

    pub print_all : (args : List ℕ) → AreNumbers count args (left m3) →
        AreFields (fields (event.Print text options args)) (left old)
    print_all args s =
        let two = pair_all IsNumber AreNumbers number_free m2 m3 count args w s in
        let three = pair_all IsNumber IsArguments number_free m1 m2 options (count, args) u two in
        fields_print text options count args (left old)
        (pair_all IsText IsOptions text_free old m1 text (options, (count, args)) t three)
