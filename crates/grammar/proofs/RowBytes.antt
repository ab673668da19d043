-- The bytes of the row that comes at a place, and what is read off them.
--     coming_codes, opened_more, opened_end, named_codes      what is read off a row of bytes, and byte by byte
--     read_codes      and that it is read off the row at the place
use Rattle.std.proofs.Common.{◌≡◌, ℕ, ◌+◌, ◌<◌, ◌≤◌, Bool, false, true, ◌&&◌, List, [], ◌∷◌, length, get_or, drop, sym, refl, ap, ◌∙◌}
use lib.Bits.{bit_or, or_zero_r}
use Rattle.std.specs.List.{fold, list_all}
use Rattle.std.proofs.lemmas.List.{drop_all, drop_more}
use Rattle.words.specs.Bits.{has_bit, bit_of}
use Rattle.words.proofs.RowLaws.{or_assoc}
use Rattle.grammar.specs.declared.table.Table.{Table}
use Rattle.grammar.specs.Grammar.{pick, each, Sym, sign, name}
use Rattle.grammar.specs.Spelling.{sym_of}
use Rattle.grammar.specs.Places.{rest}
use Rattle.grammar.specs.Rows.{vanishing, producing, holding, coming, opening, named}
use Rattle.grammar.specs.Table.{ReadOff, RowAt}
use Rattle.grammar.proofs.Spelled.{syms_of_spelled}
use Rattle.grammar.proofs.Places.{rest_fits}

-- ---- what is read off, by the first symbol

and_true : (a : Bool) → (a && true) ≡ a
and_true true = refl
and_true false = refl

holding_more : (b : Bool) (N : ℕ) (x : Sym) (β : List Sym) → holding b N (x ∷ β) ≡ (holding b N (x ∷ []) && holding b N β)
unfolding holding
holding_more b N (sign t) β = ap (λ a. a && holding b N β) (sym (and_true b))
holding_more b N (name n) β = ap (λ a. a && holding b N β) (sym (and_true (has_bit n N)))

-- without signs it vanishes, with them it comes to signs
vanishing_held : (N : ℕ) (β : List Sym) → holding false N β ≡ vanishing N β
unfolding holding vanishing
vanishing_held N [] = refl
vanishing_held N (sign t ∷ β) = refl
vanishing_held N (name n ∷ β) = ap (λ b. has_bit n N && b) (vanishing_held N β)

producing_held : (P : ℕ) (β : List Sym) → holding true P β ≡ producing P β
unfolding holding producing
producing_held P [] = refl
producing_held P (sign t ∷ β) = producing_held P β
producing_held P (name n ∷ β) = ap (λ b. has_bit n P && b) (producing_held P β)

coming_held : (b : Bool) (N : ℕ) (β : List Sym) → holding b N β ≡ coming b N β
coming_held true N β = producing_held N β
coming_held false N β = vanishing_held N β

opening_name : (N : ℕ) (F : List ℕ) (m n : ℕ) (β : List Sym) (v : Bool) → has_bit n N ≡ v →
    bit_or m (opening N F (name n ∷ β)) ≡ bit_or (bit_or m (get_or F n 0)) (pick v (opening N F β) 0)
unfolding opening
opening_name N F m n β v e = rw e (sym (or_assoc m (get_or F n 0) (pick v (opening N F β) 0)))

named_more : (m : ℕ) (x : Sym) (β : List Sym) → bit_or m (named (x ∷ β)) ≡ bit_or (bit_or m (named (x ∷ []))) (named β)
unfolding named
named_more m (sign t) β = rw (or_zero_r m) refl
named_more m (name n) β = rw (or_zero_r (bit_of n)) (sym (or_assoc m (bit_of n) (named β)))

pub named_sign : (t : ℕ) → named (sign t ∷ []) ≡ 0
unfolding named
named_sign t = refl

pub named_name : (n : ℕ) → named (name n ∷ []) ≡ bit_of n
unfolding named
named_name n = or_zero_r (bit_of n)

-- ---- and by all its bytes

holding_codes : (v : Bool) (N : ℕ) (bs : List ℕ) → list_all (λ b. holding v N (sym_of b ∷ [])) bs ≡ holding v N (each sym_of bs)
unfolding each holding
holding_codes v N [] = refl
holding_codes v N (b ∷ bs) = rw (holding_codes v N bs) (sym (holding_more v N (sym_of b) (each sym_of bs)))

pub coming_codes : (v : Bool) (N : ℕ) (bs : List ℕ) → list_all (λ b. holding v N (sym_of b ∷ [])) bs ≡ coming v N (each sym_of bs)
coming_codes v N bs = holding_codes v N bs ∙ coming_held v N (each sym_of bs)

pub named_codes : (m : ℕ) (bs : List ℕ) → fold (λ a b. bit_or a (named (sym_of b ∷ []))) m bs ≡ bit_or m (named (each sym_of bs))
unfolding each named
named_codes m [] = sym (or_zero_r m)
named_codes m (b ∷ bs) = named_codes (bit_or m (named (sym_of b ∷ []))) bs ∙ sym (named_more m (sym_of b) (each sym_of bs))

-- the signs so far, of a row whose bytes from i on are still to come
abbrev pub OpenedTo : ℕ → List ℕ → List ℕ → ℕ → ℕ → Type 0
OpenedTo N F bs i signs = bit_or signs (opening N F (each sym_of (drop i bs))) ≡ opening N F (each sym_of bs)

module _ (N : ℕ) (F bs : List ℕ) (i signs : ℕ) (o : OpenedTo N F bs i signs) where
  at_symbol : (x : Sym) → i < length bs → x ≡ sym_of (get_or bs i 0) → each sym_of (drop i bs) ≡ x ∷ each sym_of (drop (i + 1) bs)
  unfolding each
  at_symbol x h e = ap (each sym_of) (drop_more bs i 0 h) ∙ ap (λ y. y ∷ each sym_of (drop (i + 1) bs)) (sym e)

  pub opened_sign : (t : ℕ) → i < length bs → sign t ≡ sym_of (get_or bs i 0) → bit_or signs (bit_of t) ≡ opening N F (each sym_of bs)
  unfolding opening
  opened_sign t h e = ap (λ γ. bit_or signs (opening N F γ)) (sym (at_symbol (sign t) h e)) ∙ o

  opened_name : (v : Bool) (n : ℕ) → i < length bs → name n ≡ sym_of (get_or bs i 0) → has_bit n N ≡ v →
      bit_or (bit_or signs (get_or F n 0)) (pick v (opening N F (each sym_of (drop (i + 1) bs))) 0) ≡ opening N F (each sym_of bs)
  opened_name v n h e k =
      sym (opening_name N F signs n (each sym_of (drop (i + 1) bs)) v k) ∙ ap (λ γ. bit_or signs (opening N F γ)) (sym (at_symbol (name n) h e)) ∙ o

  pub opened_end : (n : ℕ) → i < length bs → name n ≡ sym_of (get_or bs i 0) → has_bit n N ≡ false →
      bit_or signs (get_or F n 0) ≡ opening N F (each sym_of bs)
  opened_end n h e k = sym (or_zero_r _) ∙ opened_name false n h e k

  pub opened_more : (n : ℕ) → i < length bs → name n ≡ sym_of (get_or bs i 0) → has_bit n N ≡ true →
      OpenedTo N F bs (i + 1) (bit_or signs (get_or F n 0))
  opened_more n h e k = opened_name true n h e k

  pub opened_all : length bs ≤ i → signs ≡ opening N F (each sym_of bs)
  unfolding each opening
  opened_all h = sym (or_zero_r signs) ∙ ap (λ xs. bit_or signs (opening N F (each sym_of xs))) (sym (drop_all i bs h)) ∙ o

-- what is read off the bytes is read off the row
pub read_codes : {A : Type 0} {t : Table} (f : List Sym → A) (p : ℕ) (bs : List ℕ) → RowAt t p bs → (r : A) → r ≡ f (each sym_of bs) → ReadOff t f p r
read_codes f p bs same r e g s h = e ∙ ap f (ap (each sym_of) (same g s h) ∙ syms_of_spelled (rest g p) (rest_fits g p s.fits))
