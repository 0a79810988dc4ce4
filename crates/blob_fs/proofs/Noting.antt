-- One more edit that nothing has settled, among calls that leave these edits.
use Rattle.std.proofs.Common.{◌≡◌, ◌++◌, [], ◌∷◌, List, ap, subst, sym, ◌∙◌}
use Rattle.blob_model.specs.Rates.{Rate}
use Rattle.blob_directory.specs.declared.unsettled.About.{About}
use Rattle.blob_directory.specs.declared.unsettled.Unsettled.{Unsettled}
use Rattle.blob_directory.specs.Names.{Edit}
use Rattle.blob_journal.specs.declared.journaled.Journaled.{Journaled}
use Rattle.blob_journal.specs.Draws.{EndsWithEdit}
use Rattle.blob_journal.specs.Settling.{KeepsUnsettled, NotesEdit, unsettled_of}

-- the edit, what it is about and its rate by other words
pub noted_between : {R : Type 0} (a b c d : Journaled R) (edit edit' : Edit) (about about' : About) (rate rate' : Rate) → edit' ≡ edit → about' ≡ about → rate' ≡ rate
    → KeepsUnsettled a b → NotesEdit edit' about' rate' b c → d ≡ c → NotesEdit edit about rate a d
noted_between {R} a b c d edit edit' about about' rate rate' is for by before noted after =
    let adds = noted.adds in
    record {
      number = noted.number;
      adds = record {
        last = adds.last;
        is = ap (λ (j : Journaled R). unsettled_of j) after ∙ adds.is ∙ ap (λ (l : List Unsettled). l ++ adds.last ∷ []) before;
        edit = adds.edit ∙ is;
        about = adds.about ∙ for;
        number = adds.number;
      };
      ends = subst (λ (j : Journaled R). ∥ EndsWithEdit edit rate j ∥₁) (sym after)
          (subst (λ (r : Rate). ∥ EndsWithEdit edit r c ∥₁) by (subst (λ (e : Edit). ∥ EndsWithEdit e rate' c ∥₁) is noted.ends));
    }
