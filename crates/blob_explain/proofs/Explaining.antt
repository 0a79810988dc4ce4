-- Replies that are explained line by line.
use Rattle.std.specs.Io.KnownBytes.{Appends}
use Rattle.std.proofs.Common.{Option, Some, ◌≡◌, ◌≢◌, ℕ, zero, suc, List, [], ◌∷◌, ◌++◌, All, append_assoc, refl, sym, ap, ◌∙◌, arith}
use Rattle.std.specs.List.{flat_map}
use Rattle.std.proofs.lemmas.List.{append-nil, flat_map_more}
use Rattle.std.proofs.lemmas.List.Elements.{All-append}
use Rattle.blob_explain.specs.Explained.{IsLine, remark, AreRemarks, Remarks, IsRemarking, as_line, with_remarks, IsExplained, Explains}

of_none : {X : Type 0} (P : X → Type 0) → All P []
of_none P k d lt = absurd (omega (arith, lt))

of_one : {X : Type 0} (P : X → Type 0) (x : X) → P x → All P (x ∷ [])
of_one P x p zero d lt = p
of_one P x p (suc k) d lt = absurd (omega (arith, lt))

-- `text` is the printed lines before `rest`, each followed by its remarks
pub record Told (printed rest text : List ℕ) : Type 0 where
  pub pieces : List (List ℕ × List ℕ)
  pub remarks : All (λ piece. AreRemarks piece.1) pieces
  pub lines : printed ≡ flat_map as_line pieces ++ rest
  pub written : text ≡ flat_map with_remarks pieces

pub begins : (printed text : List ℕ) → text ≡ [] → Told printed printed text
begins printed text e = record { pieces = []; remarks = of_none (λ piece. AreRemarks piece.1); lines = refl; written = e }

pub goes_on : (printed rest text line others pushed next : List ℕ) → Told printed rest text → rest ≡ line ++ 10 ∷ others → pushed ≡ text ++ line ++ 10 ∷ [] → Remarks pushed next → Told printed others next
goes_on printed rest text line others pushed next t parts is r = record {
  pieces = t.pieces ++ (line, r.added) ∷ [];
  remarks = All-append (λ piece. AreRemarks piece.1) t.pieces ((line, r.added) ∷ []) t.remarks (of_one (λ piece. AreRemarks piece.1) (line, r.added) r.are);
  lines = t.lines ∙ ap (λ u. flat_map as_line t.pieces ++ u) (parts ∙ sym (append_assoc line (10 ∷ []) others))
      ∙ sym (append_assoc (flat_map as_line t.pieces) (line ++ 10 ∷ []) others) ∙ ap (λ u. u ++ others) (flat_map_more as_line [] t.pieces (line, r.added));
  written = r.adds ∙ ap (λ u. u ++ r.added) (is ∙ ap (λ u. u ++ line ++ 10 ∷ []) t.written) ∙ append_assoc (flat_map with_remarks t.pieces ++ line) (10 ∷ []) r.added ∙ append_assoc (flat_map with_remarks t.pieces) line (10 ∷ r.added)
      ∙ flat_map_more with_remarks [] t.pieces (line, r.added);
}

pub explained : (printed rest text whole : List ℕ) → Told printed rest text → whole ≡ text ++ rest → IsExplained printed whole
explained printed rest text whole t e = record { pieces = t.pieces; remarks = t.remarks; rest = rest; lines = t.lines; written = e ∙ ap (λ u. u ++ rest) t.written }

pub none : (text : List ℕ) → Remarks text text
none text = record { added = []; are = record { lines = []; each = of_none IsLine; written = refl }; adds = sym (append-nil text) }

pub begun : (text line : List ℕ) → line ≡ [] → IsRemarking text text line
begun text line e = record { remarks = none text; is = rw e (of_none (λ byte. byte ≢ 10)) }

pub line_ended : (old text line next empty : List ℕ) → IsRemarking old text line → next ≡ text ++ remark line → empty ≡ [] → IsRemarking old next empty
line_ended old text line next empty s to e = let r = s.remarks in record {
  remarks = record {
    added = r.added ++ remark line;
    are = record {
      lines = r.are.lines ++ line ∷ [];
      each = All-append IsLine r.are.lines (line ∷ []) r.are.each (of_one IsLine line s.is);
      written = ap (λ u. u ++ remark line) r.are.written ∙ flat_map_more remark [] r.are.lines line;
    };
    adds = to ∙ ap (λ u. u ++ remark line) r.adds ∙ append_assoc old r.added (remark line);
  };
  is = rw e (of_none (λ byte. byte ≢ 10));
}

pub byte_taken : (old text line next : List ℕ) (byte : ℕ) → IsRemarking old text line → byte ≢ 10 → next ≡ line ++ byte ∷ [] → IsRemarking old text next
byte_taken old text line next byte s other e = record {
  remarks = s.remarks;
  is = rw e (All-append (λ b. b ≢ 10) line (byte ∷ []) s.is (of_one (λ b. b ≢ 10) byte other));
}

pub tells : (Prints : Option (List ℕ) → Option (List ℕ) → Type 0) (printed text : List ℕ) (old new : Option (List ℕ)) → Prints (Some []) (Some printed) → IsExplained printed text → Appends old new text → Explains Prints old new
tells Prints printed text old new p e a = record { printed = printed; prints = p; text = text; explained = e; added = a }
