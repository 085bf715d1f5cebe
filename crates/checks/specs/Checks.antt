-- Checks 2 to 9 and 11, by the numbers of FORMAT 9.2. `breaks4 d` says that check 4 applies to the description d.
use Rattle.std.specs.Prelude.{Bool, not, cond, ◌&&◌, ◌||◌, List, ℕ, ◌-◌, eqb, leb, ltb, get_or, length}
use Rattle.endian.specs.Loops.{sum_to}
use Rattle.geometry.specs.Limits.{least_exponent, power_in, size_limit, shortest_text, longest_text}
pub use Rattle.geometry.specs.Limits.{brick_limit}
use Rattle.floats.specs.Rules.{finite_bits, range_ok}
use Rattle.record.specs.Answers.{refused, is_taken, and_then, Verdict, Taken}
use Rattle.record.specs.Types.{coding_of, type_verdict, no_type}
use Rattle.record.specs.Record.{bricks_of}
use Rattle.record.specs.declared.Description.{Description}
use Rattle.record.specs.declared.Refusal.TheVariants as refusal

-- a test of all three directions
abbrev pub all3 : (ℕ → Bool) → List ℕ → Bool
all3 p l = p (get_or l 0 0) && p (get_or l 1 0) && p (get_or l 2 0)

-- the magic is not VBS and a zero byte
unfoldable pub breaks2 : List ℕ → Bool
breaks2 f = not (eqb (get_or f 0 0) 86 && eqb (get_or f 1 0) 66 && eqb (get_or f 2 0) 83 && eqb (get_or f 3 0) 0)

unfoldable pub breaks3 : ℕ → Bool
breaks3 v = not (eqb v 2 || eqb v 3)

-- a side is 2^e for an e from the least exponent to the greatest
unfoldable pub side_ok : ℕ → Bool
side_ok n = power_in least_exponent n

unfoldable pub breaks4 : Description → Bool
breaks4 d = not (all3 side_ok d.side)

-- check 5, with the refusal that the type number gives
abbrev pub verdict5 : Description → Verdict
verdict5 d = type_verdict (coding_of d.datatype)

unfoldable pub breaks5 : Description → Bool
breaks5 d = no_type (coding_of d.datatype)

unfoldable pub size_ok : ℕ → Bool
size_ok n = leb 1 n && leb n size_limit

unfoldable pub breaks6 : Description → Bool
breaks6 d = not (all3 size_ok d.size)

-- orig or inc not finite; types 0 and 2: range not finite or min not below max
unfoldable pub breaks7 : Description → Bool
breaks7 d = not (all3 finite_bits d.orig && all3 finite_bits d.inc && (eqb d.datatype 6 || range_ok (get_or d.range 0 0) (get_or d.range 1 0)))

unfoldable pub breaks8 : Description → Bool
breaks8 d = ltb brick_limit (bricks_of d)

unfoldable pub breaks9 : ℕ → Bool
breaks9 t = not (leb shortest_text t && leb t longest_text)

-- the zero bytes of a text
unfoldable pub zeros : List ℕ → ℕ
zeros s = sum_to (λ i. cond (eqb (get_or s i 0) 0) 1 0) (length s)

-- without exactly five zero bytes, or last byte not zero
unfoldable pub breaks11 : List ℕ → Bool
breaks11 s = not (eqb (zeros s) 5 && eqb (get_or s (length s - 1) 0) 0)

-- none of checks 4 to 7 applies
unfoldable pub fields_fit : Description → Bool
fields_fit d = is_taken (verdict5 d) && not (breaks4 d || breaks6 d || breaks7 d)

-- checks 4 to 9 in their order, of a description and a text of t bytes
unfoldable pub described : Description → ℕ → Verdict
described d t =
    cond (breaks4 d) (refused refusal.Side)
    (and_then (verdict5 d)
    (cond (breaks6 d) (refused refusal.Size)
    (cond (breaks7 d) (refused refusal.Floats)
    (cond (breaks8 d) (refused refusal.Bricks)
    (cond (breaks9 t) (refused refusal.TextLength)
    Taken)))))
