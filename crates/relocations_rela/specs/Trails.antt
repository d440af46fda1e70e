-- What check 9 of a relocation has to know about those before it, as numbers that the code carries along.
use Rattle.std.specs.Prelude.{ℕ, zero, suc, ◌+◌, Bool, not, cond, ◌&&◌, ◌||◌, List, leb, ltb, eqb}
use Rattle.numbers_definitions.specs.Whole.{signed}
use Rattle.elf_read.specs.declared.Relocation.{Relocation}
use Rattle.relocations_types.specs.declared.Decision.{Decision}
use Rattle.relocations_decisions.specs.Decisions.{is_store, is_refused, touched, stack_width}
use Rattle.relocations_rela.specs.declared.sites.Site.{Site}
use Rattle.relocations_rela.specs.declared.shape.Trail.{Trail}
use Rattle.relocations_rela.specs.Sites.{entry, decision_at}
use Rattle.relocations_rela.specs.Shape.{addend_well}

-- the trail before the first relocation
abbrev pub no_trail : Trail
no_trail = record { offset = 0; start = 0; end = 0; width = 0 }

-- a trail with one more relocation
unfoldable pub advanced : Trail → Decision → Relocation → Trail
advanced t d r =
    record {
      offset = r.offset.0;
      start = cond (is_store d) r.offset.0 t.start;
      end = cond (is_store d) (r.offset.0 + touched d) t.end;
      width = cond (is_store d) (stack_width d) t.width;
    }

-- Before relocation j: the offset of the relocation before it; and of the previous non-marker the offset, the end and the width as a stack.
-- What is not there counts as 0.
unfoldable pub trail_at : List ℕ → Site → ℕ → Trail
trail_at object x zero = no_trail
trail_at object x (suc j) = advanced (trail_at object x j) (decision_at object x j) (entry object x j)

-- "both are of 33..40, 52..56 with equal offset and width", by a trail, and by the width as a stack, which is 0 for any other type
unfoldable pub shares_width : Trail → ℕ → ℕ → Bool
shares_width t width at = eqb t.start at && ltb 0 t.width && eqb t.width width

abbrev pub shares_by : Trail → Decision → ℕ → Bool
shares_by t d at = shares_width t (stack_width d) at

-- check 9 by a trail
unfoldable pub shape_by : Trail → Decision → Relocation → ℕ → Bool
shape_by t d r size =
    not (is_refused d)
    && leb t.offset r.offset.0
    && leb (r.offset.0 + touched d) size
    && (not (is_store d) || leb t.end r.offset.0 || shares_by t d r.offset.0)
    && addend_well d r.offset.0 size (signed 64 r.addend)
