-- The results of parsing a uid.
use Rattle.std.proofs.Common.{◌≡◌, ℕ, List, Bool, true, false, cond, refl, sym, ap, subst, ◌∙◌, Option, Some, None}
use Rattle.std.proofs.Common.{Result, Ok, Err, IfOk, IsTrue}
use Rattle.std.specs.Option.{option_map}
use Rattle.cedar_ids.specs.Name.{NameParts}
use Rattle.cedar_ids.specs.Uid.{UidParts}
use Rattle.cedar_ids.specs.UidOf.{uid_parts}
use Rattle.cedar_ids.specs.Escape.{escaped, is_ascii}
use Rattle.cedar_ids.specs.Printed.{printed_name}
use Rattle.cedar_ids.specs.laws.Decode.{eid_of}
use Rattle.cedar_ids.specs.laws.Eids.{ascii_text}
use Rattle.cedar_ids.specs.TextOf.{IsNameText, IsPrinted}
use Rattle.cedar_ids.specs.laws.NameReading.{name_of}
use Rattle.cedar_ids.specs.Reads.{Reads, IsTextOfOne, IsOkUnlessMemory}
use Rattle.cedar_ids.specs.ReadsUid.{FollowsChecks, StartsWithName}
use Rattle.cedar_ids.specs.laws.UidReading.{uid_halves, uid_reading, uid_with, ascii_uid}
use Rattle.cedar_ids.specs.declared.entity.EntityUID.{EntityUID}
use Rattle.cedar_ids.specs.declared.entity.EntityUID.TheVariants as uids
use Rattle.cedar_ids.specs.declared.err.ParseErrors.{ParseErrors}
use Rattle.cedar_ids.specs.declared.err.ParseErrors.TheVariants.{NotNormalized, InvalidName, Memory}
use Rattle.cedar_ids.specs.laws.NameTextLaws.{name_of_text}
use Rattle.cedar_ids.specs.laws.PrintedLaws.{uid_reading-printed, halves-printed}
use Rattle.cedar_ids.specs.laws.UidTexts.{uid_found, no_marks, halves_sound, starts_named, named_half}

-- The contract of parsing a uid, as one proposition about the result.
abbrev pub Answered : Result EntityUID ParseErrors → List ℕ → Type 0
Answered r t =
    IfOk r (λ u. IsTrue (is_ascii (uid_parts u).eid) → IsPrinted (uid_parts u) t)
    × ((v : EntityUID) → IsPrinted (uid_parts v) t → IsOkUnlessMemory r v)
    × FollowsChecks r t

same_parts : (u v : EntityUID) → uid_parts u ≡ uid_parts v → u ≡ v
same_parts (uids.EntityUID x) (uids.EntityUID y) e = ap uids.EntityUID e

none_printed : (t : List ℕ) (r : Result (Option UidParts) ParseErrors) (v : UidParts) → uid_reading t ≡ r
    → (r ≡ Ok (Some v) → ⊥) → IsPrinted v t → ⊥
none_printed t r v e f h = f (sym e ∙ uid_reading-printed v t h)

reading_none : (t : List ℕ) → uid_halves t ≡ None → uid_reading t ≡ Err NotNormalized
unfolding uid_reading
reading_none t e = rw e refl

pub at_no_halves : (t : List ℕ) → None ≡ uid_halves t → Answered (Err NotNormalized) t
at_no_halves t e = (
  tt,
  λ v h. none_printed t (Err NotNormalized) (uid_parts v) (reading_none t (sym e)) (λ q. absurd (cc)) h,
  λ m. absurd (no_marks t (sym e) m),
)

-- The text before the first mark of a uid's printed text is its name.
starts_printed : (t : List ℕ) (u : UidParts) → IsPrinted u t → StartsWithName u.name t
starts_printed t u h =
    starts_named t (printed_name u.name) (escaped u.eid) u.name (ap uid_halves h.2 ∙ halves-printed u h.0) (h.0, refl)

pub at_no_name : (t : List ℕ) (p : List ℕ × List ℕ) → Some p ≡ uid_halves t → (e : ParseErrors)
    → Reads IsNameText (Err e) p.0 → Answered (Err e) t
at_no_name t p h NotNormalized r = absurd r
at_no_name t p h InvalidName r = (
  tt,
  λ v k. r (uid_parts v).name (named_half t p.0 p.1 (uid_parts v).name (sym h) (starts_printed t (uid_parts v) k)),
  ((p.0, p.1, halves_sound t p.0 p.1 (sym h)), λ n k. r n (named_half t p.0 p.1 n (sym h) k)),
)
at_no_name t p h Memory r = (tt, λ v k. tt, tt)

reading_no_eid : (t : List ℕ) (p : List ℕ × List ℕ) (n : NameParts) → uid_halves t ≡ Some p → name_of p.0 ≡ Some n
    → eid_of p.1 ≡ None → uid_reading t ≡ Ok None
unfolding uid_reading
reading_no_eid t p n e m d = rw (e, m, d) refl

pub at_no_eid : (t : List ℕ) (p : List ℕ × List ℕ) (n : NameParts) → Some p ≡ uid_halves t
    → IsTextOfOne IsNameText n p.0 → None ≡ eid_of p.1 → Answered (Err NotNormalized) t
at_no_eid t p n h r e = (
  tt,
  λ v k. none_printed t (Ok None) (uid_parts v) (reading_no_eid t p n (sym h) (name_of_text p.0 n r.0) (sym e))
      (λ q. absurd (cc)) k,
  λ m. (n, starts_named t p.0 p.1 n (sym h) r.0),
)

with_ascii : (b : Bool) (n : NameParts) (d : List ℕ)
    → option_map (uid_with n) (cond b (Some d) None) ≡ cond b (Some (uid_with n d)) None
with_ascii true n d = refl
with_ascii false n d = refl

reading_eid : (t : List ℕ) (p : List ℕ × List ℕ) (n : NameParts) (d : List ℕ) → uid_halves t ≡ Some p
    → name_of p.0 ≡ Some n → eid_of p.1 ≡ ascii_text d → uid_reading t ≡ Ok (ascii_uid (uid_with n d))
unfolding uid_reading
reading_eid t p n d h r e = rw (h, r, e) (ap (λ o. Ok o) (with_ascii (is_ascii d) n d))

some_ascii : (b : Bool) (u v : UidParts)
    → ◌≡◌ {A = Result (Option UidParts) ParseErrors} (Ok (cond b (Some u) None)) (Ok (Some v)) → u ≡ v
some_ascii true u v e = cc
some_ascii false u v e = absurd (cc)

ascii_some : (b : Bool) (u : UidParts) → b ≡ true
    → ◌≡◌ {A = Result (Option UidParts) ParseErrors} (Ok (cond b (Some u) None)) (Ok (Some u))
ascii_some true u e = refl
ascii_some false u e = absurd (cc)

pub at_eid : (t : List ℕ) (p : List ℕ × List ℕ) (n : NameParts) (d : List ℕ) (u : EntityUID) → Some p ≡ uid_halves t
    → IsTextOfOne IsNameText n p.0 → ascii_text d ≡ eid_of p.1 → uid_parts u ≡ uid_with n d → Answered (Ok u) t
at_eid t p n d u h r e q =
    let k : uid_reading t ≡ Ok (ascii_uid (uid_parts u)) = reading_eid t p n d (sym h) (name_of_text p.0 n r.0) (sym e)
    ∙ ap (λ w. Ok (ascii_uid w)) (sym q) in (
      λ a. uid_found t (uid_parts u) (k ∙ ascii_some (is_ascii (uid_parts u).eid) (uid_parts u) a),
      λ v z.
          same_parts u v (some_ascii (is_ascii (uid_parts u).eid) (uid_parts u) (uid_parts v) (sym k
          ∙ uid_reading-printed (uid_parts v) t z)),
      (let P : NameParts → Type 0 = λ m. StartsWithName m t in
          subst P (sym (ap (λ (w : UidParts). w.name) q)) (starts_named t p.0 p.1 n (sym h) r.0)),
    )
