-- The low bytes of words; so many of them; and the grammar that they spell.
use Rattle.std.proofs.Common.{◌≡◌, ℕ, zero, suc, ◌+◌, ◌<◌, min, Bool, true, false, List, [], ◌∷◌, length, get_or, take, set, Some, None, Option, sym, refl, ap, ◌∙◌, subst, arith, drop-set-lt}
use borrow.Rule.Slice.PartMut.{put_mid}
use lib.Bits.{bit_and}
use Rattle.std.proofs.lemmas.Nat.{and_mask}
use Rattle.words.specs.Regions.{region}
use Rattle.words.proofs.Regions.{put_replaced}
use Rattle.grammar.specs.declared.table.Table.{Table}
use Rattle.grammar.specs.Grammar.{pick, each}
use Rattle.grammar.specs.Spelling.{grammar_ok, grammar_of, Spells}
use Rattle.grammar.specs.Table.{Shows, Answers}
use Rattle.grammar.proofs.Spelled.{grammar_back}
use Rattle.reader.specs.Memory.{low_byte, over, with_text, spelling_in, loaded}
use Rattle.grammar.specs.declared.prepared.Prepared.{Prepared}
use Rattle.grammar.specs.Prepared.{DescribesShown}
use denote.Param.Members.{Mut}
use Rattle.std.specs.Fn.{Called}
use Rattle.std.proofs.lemmas.List.{ext_get_or}
use Rattle.std.specs.Array.{IsFromFnResult, IsFromFnResultFrom}
use Rattle.std.specs.Prelude.{MatchOption}
use Rattle.reader.specs.Tables.{LoadedGrammar}
use Rattle.reader.proofs.Loading.{not_spelled}

pub get_each : (f : ℕ → ℕ) (xs : List ℕ) (i : ℕ) → i < length xs → get_or (each f xs) i 0 ≡ f (get_or xs i 0)
unfolding each
get_each f [] i h = absurd (omega arith)
get_each f (x ∷ xs) zero h = refl
get_each f (x ∷ xs) (suc i) h = get_each f xs i (omega arith)

pub take_each : (f : ℕ → ℕ) (n : ℕ) (xs : List ℕ) → take n (each f xs) ≡ each f (take n xs)
unfolding each
take_each f zero xs = refl
take_each f (suc n) [] = refl
take_each f (suc n) (x ∷ xs) = ap (λ (l : List ℕ). f x ∷ l) (take_each f n xs)

-- the beginning's words are set, then those from a on
region_behind : (a n : ℕ) (m : List ℕ) (i x : ℕ) → i < a → region a n (set m i x) ≡ region a n m
region_behind a n m i x h = ap (take n) (drop-set-lt a m i x h)

pub behind_set : (a n : ℕ) (m : List ℕ) (h p q r x y z w : ℕ) → h < a → p < a → q < a → r < a →
    region a n (set (set (set (set m h x) p y) q z) r w) ≡ region a n m
behind_set a n m h p q r x y z w eh ep eq er =
    region_behind a n _ r w er ∙ region_behind a n _ q z eq ∙ region_behind a n _ p y ep ∙ region_behind a n m h x eh

text_kept : (m ts ys : List ℕ) → ys ≡ over ts (region 262 4096 (set (set (set (set m 258 1) 259 0) 260 0) 261 (length ts))) →
    put_mid 262 4096 (set (set (set (set m 258 1) 259 0) 260 0) 261 (length ts)) ys ≡ with_text ts m
text_kept m ts ys e =
    put_replaced 262 4096 4358 (set (set (set (set m 258 1) 259 0) 260 0) 261 (length ts)) ys (over ts (region 262 4096 m)) refl
    (e ∙ ap (over ts) (behind_set 262 4096 m 258 259 260 261 1 0 0 (length ts) (omega arith) (omega arith) (omega arith) (omega arith)))

-- the phase is that of a text that is told
pub text_stored : (m ts ys : List ℕ) (k : ℕ) → k ≡ 1 → ys ≡ over ts (region 262 4096 (set (set (set (set m 258 k) 259 0) 260 0) 261 (length ts))) →
    put_mid 262 4096 (set (set (set (set m 258 k) 259 0) 260 0) 261 (length ts)) ys ≡ with_text ts m
text_stored m ts ys k h =
    subst
    (λ (j : ℕ). ys ≡ over ts (region 262 4096 (set (set (set (set m 258 j) 259 0) 260 0) 261 (length ts))) →
    put_mid 262 4096 (set (set (set (set m 258 j) 259 0) 260 0) 261 (length ts)) ys ≡ with_text ts m)
    (sym h) (text_kept m ts ys)

-- LOW BYTES: an array that is made by calls of a closure that stays as it is
module _ {F : Type 0} (g : Mut F (ℕ × Unit {0}) ℕ) (f : F) (val : ℕ → ℕ) (gives : (i y : ℕ) (q : F) → Called g f (i, tt) y q → (q ≡ f) × (y ≡ val i)) where
  made_at : (h : F) (ys : List ℕ) (n i j : ℕ) → h ≡ f → IsFromFnResultFrom g h ys i n → j < n → get_or ys (i + j) 0 ≡ val (i + j)
  made_at h ys zero i j e m l = absurd (omega arith)
  made_at h ys (suc n) i zero e (q, y, at, call, rest) l =
      let z : i + 0 ≡ i = omega arith in
      let r = gives i y q (subst (λ (p : F). Called g p (i, tt) y q) e call) in
      rw z (at.1 0 ∙ r.1)
  made_at h ys (suc n) i (suc j) e (q, y, at, call, rest) l =
      let z : (i + 1) + j ≡ i + suc j = omega arith in
      let r = gives i y q (subst (λ (p : F). Called g p (i, tt) y q) e call) in
      subst (λ (k : ℕ). get_or ys k 0 ≡ val k) z (made_at q ys n (i + 1) j r.0 rest (omega arith))

  pub made_all : (ys zs : List ℕ) (n : ℕ) → IsFromFnResult g f ys n → length zs ≡ n → ((i : ℕ) → i < n → get_or zs i 0 ≡ val i) → ys ≡ zs
  made_all ys zs n m long same =
      ext_get_or 0 ys zs (m.long ∙ sym long)
      (λ i h. let z : 0 + i ≡ i = omega arith in
      subst (λ (k : ℕ). get_or ys k 0 ≡ val k) z (made_at f ys n 0 i refl m.each (omega (arith, m.long))) ∙ sym (same i (omega (arith, m.long))))

pub byte_each : (ws : List ℕ) (i : ℕ) → i < length ws → get_or (each low_byte ws) i 0 ≡ bit_and (get_or ws i 0) 255
byte_each ws i h = get_each low_byte ws i h ∙ sym (and_mask (get_or ws i 0) 8)

-- so many of them, or all that there are
pub bytes_taken : (k n : ℕ) (ws bs : List ℕ) → length ws ≡ n → bs ≡ each low_byte ws → take (min k n) bs ≡ each low_byte (take k ws)
bytes_taken k n ws bs h e =
    ap (take (min k n)) e ∙ take_each low_byte (min k n) ws ∙ ap (each low_byte) (go k n ws h)
  where
    go : (k n : ℕ) (ws : List ℕ) → length ws ≡ n → take (min k n) ws ≡ take k ws
    go zero n ws h = ap (λ (j : ℕ). take j ws) (let e : min 0 n ≡ 0 = omega arith in e)
    go (suc k) n [] h = let e : min (suc k) n ≡ 0 = omega arith in rw e refl
    go (suc k) n (w ∷ ws) h =
        let e : min (suc k) n ≡ suc (min k (length ws)) = omega arith in
        rw e (ap (λ (l : List ℕ). w ∷ l) (go k (length ws) ws refl))

-- THE GRAMMAR that is loaded, as it is read off its spelling
abbrev pub LoadedTable : List ℕ → Option Table → Type 0
LoadedTable m None = loaded m ≡ []
LoadedTable m (Some t) = (loaded m ≡ grammar_of (spelling_in m) ∷ []) × Shows t (grammar_of (spelling_in m))

pub table_loaded : (m bs : List ℕ) (r : Option Table) → bs ≡ spelling_in m → Answers bs r → LoadedTable m r
unfolding loaded Spells
table_loaded m bs None e h = go (grammar_ok (spelling_in m)) refl
  where
    go : (b : Bool) → grammar_ok (spelling_in m) ≡ b → pick (grammar_ok (spelling_in m)) (grammar_of (spelling_in m) ∷ []) [] ≡ []
    go true q = absurd (not_spelled (spelling_in m) q (subst (λ (l : List ℕ). Spells false l) e h))
    go false q = rw q refl
table_loaded m bs (Some t) e h =
    let s : Spells true (spelling_in m) = subst (λ (l : List ℕ). Spells true l) e h.0 in
    let p : Shows t (grammar_of (spelling_in m)) = subst (λ (l : List ℕ). Shows t (grammar_of l)) e h.1 in
    let q : grammar_ok (spelling_in m) ≡ true = subst (λ (l : List ℕ). grammar_ok l ≡ true) s.1 (grammar_back (grammar_of (spelling_in m)) s.0).0 in
    (rw q refl, p)

-- the grammar that is made of a table, where there is one
abbrev pub MadeOf : Option Table → Option Prepared → Type 0
MadeOf r q = MatchOption r (q ≡ None) (λ t. (p : Prepared) × (q ≡ Some p) × DescribesShown t p)

pub grammar_loaded : (m : List ℕ) (r : Option Table) (q : Option Prepared) → LoadedTable m r → MadeOf r q → LoadedGrammar m q
grammar_loaded m None q h e = subst (LoadedGrammar m) (sym e) h
grammar_loaded m (Some t) q h (p, e, d) = subst (LoadedGrammar m) (sym e) (h.0, d.1 (grammar_of (spelling_in m)) h.1)
