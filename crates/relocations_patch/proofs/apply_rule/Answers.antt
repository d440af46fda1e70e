-- `relocations_patch::apply_rule` meets its contract.
use mathlib.Core.Path.{refl, ap, ◌∙◌, subst}
use Prim.Native.Nat.{ℕ, ◌/◌, ◌^◌}
use Rattle.numbers_definitions.specs.Classes.{bits}
use Rattle.numbers_definitions.specs.Whole.{residue, signed}
use Rattle.instructions_fields.specs.declared.Field.TheVariants.{U, I, S, B, J, Cb, Cj, Call, Data}
use Rattle.instructions_fields.specs.Layouts.{put}
use Rattle.instructions_fields.specs.Fields.{layout}
use Rattle.instructions_riscv.specs.declared.forms.Form.TheVariants.{LowI, LowS, Branch, Jal, CBranch, CJump, CallPair}
use Rattle.relocations_types.specs.declared.Operand.TheVariants.{PcRelative}
use Rattle.relocations_types.specs.declared.Part.TheVariants.{Distance, High, Low, BothHalves}
use Rattle.relocations_patch.specs.Regular.{Regular}
use Rattle.relocations_patch.proofs.Laws.Regular.{upper_instruction, high_reaches, relative, instruction_made, data_made}
use Rattle.relocations_patch.proofs.apply_rule.Goals as goal
use Rattle.relocations_patch.proofs.apply_rule.Goals.{Start}

pub upper_opcode-requires : goal.upper_opcode-requires
upper_opcode-requires c =
    let a = c.args in
    (subst (λ f. Regular a.rule.calculation f a.rule.form) c.in-U.is c.requires).2

pub data_word-requires : goal.data_word-requires
data_word-requires c =
    let a = c.args in
    (subst (λ f. Regular a.rule.calculation f a.rule.form) c.in-Data.is c.requires).0

-- T
abbrev target : Start → ℕ
target c = residue (bits c.args.class) (signed 64 c.args.x)

pub returns-in-U : goal.returns-in-U
returns-in-U c =
    let a = c.args in
    let told = c.in-U.is in
    let g : Regular a.rule.calculation U a.rule.form = subst (λ f. Regular a.rule.calculation f a.rule.form) told c.requires in
    instruction_made a.class a.rvc a.rule.calculation a.rule.form a.found a.w (target (goal.at.returns-in-U c).Start) a.p.0 a.d (signed 64 a.x)
    a.rule.field U High a.rule.form _ _ _ _
    told
    g.0
    refl
    (upper_instruction a.rule.form g.2)
    (c.upper_opcode.ensures a.class a.found (a.found / 2 ^ 32))
    (c.in_halves_reach.ensures ∙ high_reaches a.class a.rule.calculation g.0 (target (goal.at.returns-in-U c).Start) a.p.0 a.d _ g.1 c.operand_value-v.ensures)
    c.operand_value-v.ensures
    (c.put_u.ensures ∙ ap (put (layout U) a.w) c.high_part.ensures.0)

pub returns-in-I : goal.returns-in-I
returns-in-I c =
    let a = c.args in
    let told = c.in-I.is in
    let g : Regular a.rule.calculation I a.rule.form = subst (λ f. Regular a.rule.calculation f a.rule.form) told c.requires in
    instruction_made a.class a.rvc a.rule.calculation a.rule.form a.found a.w (target (goal.at.returns-in-I c).Start) a.p.0 a.d (signed 64 a.x)
    a.rule.field I Low LowI _ _ _ _
    told
    g.0
    g.1
    refl
    c.has_form.ensures
    refl
    c.operand_value-v.ensures
    (c.put_i.ensures ∙ ap (put (layout I) a.w) (c.low_part.ensures.0 a.class))

pub returns-in-S : goal.returns-in-S
returns-in-S c =
    let a = c.args in
    let told = c.in-S.is in
    let g : Regular a.rule.calculation S a.rule.form = subst (λ f. Regular a.rule.calculation f a.rule.form) told c.requires in
    instruction_made a.class a.rvc a.rule.calculation a.rule.form a.found a.w (target (goal.at.returns-in-S c).Start) a.p.0 a.d (signed 64 a.x)
    a.rule.field S Low LowS _ _ _ _
    told
    g.0
    g.1
    refl
    c.has_form-in-S.ensures
    refl
    c.operand_value-v.ensures
    (c.put_s.ensures ∙ ap (put (layout S) a.w) (c.low_part-in-S.ensures.0 a.class))

pub returns-in-B : goal.returns-in-B
returns-in-B c =
    let a = c.args in
    let told = c.in-B.is in
    let g : Regular a.rule.calculation B a.rule.form = subst (λ f. Regular a.rule.calculation f a.rule.form) told c.requires in
    instruction_made a.class a.rvc a.rule.calculation a.rule.form a.found a.w (target (goal.at.returns-in-B c).Start) a.p.0 a.d (signed 64 a.x)
    a.rule.field B Distance Branch _ _ _ _
    told
    (record { operand = PcRelative; is = g.0 })
    g.1
    refl
    c.has_form-in-B.ensures
    (c.jump_reaches.ensures (target (goal.at.returns-in-B c).Start) a.p.0 (relative a.class Distance a.rule.calculation (target (goal.at.returns-in-B c).Start) a.p.0 a.d _ g.0 c.operand_value-v.ensures))
    c.operand_value-v.ensures
    c.put_b.ensures

pub returns-in-J : goal.returns-in-J
returns-in-J c =
    let a = c.args in
    let told = c.in-J.is in
    let g : Regular a.rule.calculation J a.rule.form = subst (λ f. Regular a.rule.calculation f a.rule.form) told c.requires in
    instruction_made a.class a.rvc a.rule.calculation a.rule.form a.found a.w (target (goal.at.returns-in-J c).Start) a.p.0 a.d (signed 64 a.x)
    a.rule.field J Distance Jal _ _ _ _
    told
    (record { operand = PcRelative; is = g.0 })
    g.1
    refl
    c.has_form-in-J.ensures
    (c.jump_reaches-in-J.ensures (target (goal.at.returns-in-J c).Start) a.p.0 (relative a.class Distance a.rule.calculation (target (goal.at.returns-in-J c).Start) a.p.0 a.d _ g.0 c.operand_value-v.ensures))
    c.operand_value-v.ensures
    c.put_j.ensures

pub returns-in-Cb : goal.returns-in-Cb
returns-in-Cb c =
    let a = c.args in
    let told = c.in-Cb.is in
    let g : Regular a.rule.calculation Cb a.rule.form = subst (λ f. Regular a.rule.calculation f a.rule.form) told c.requires in
    instruction_made a.class a.rvc a.rule.calculation a.rule.form a.found a.w (target (goal.at.returns-in-Cb c).Start) a.p.0 a.d (signed 64 a.x)
    a.rule.field Cb Distance CBranch _ _ _ _
    told
    (record { operand = PcRelative; is = g.0 })
    g.1
    refl
    c.has_form-in-Cb.ensures
    (c.jump_reaches-in-Cb.ensures (target (goal.at.returns-in-Cb c).Start) a.p.0 (relative a.class Distance a.rule.calculation (target (goal.at.returns-in-Cb c).Start) a.p.0 a.d _ g.0 c.operand_value-v.ensures))
    c.operand_value-v.ensures
    c.put_cb.ensures

pub returns-in-Cj : goal.returns-in-Cj
returns-in-Cj c =
    let a = c.args in
    let told = c.in-Cj.is in
    let g : Regular a.rule.calculation Cj a.rule.form = subst (λ f. Regular a.rule.calculation f a.rule.form) told c.requires in
    instruction_made a.class a.rvc a.rule.calculation a.rule.form a.found a.w (target (goal.at.returns-in-Cj c).Start) a.p.0 a.d (signed 64 a.x)
    a.rule.field Cj Distance CJump _ _ _ _
    told
    (record { operand = PcRelative; is = g.0 })
    g.1
    refl
    c.has_form-in-Cj.ensures
    (c.jump_reaches-in-Cj.ensures (target (goal.at.returns-in-Cj c).Start) a.p.0 (relative a.class Distance a.rule.calculation (target (goal.at.returns-in-Cj c).Start) a.p.0 a.d _ g.0 c.operand_value-v.ensures))
    c.operand_value-v.ensures
    c.put_cj.ensures

pub returns-in-Call : goal.returns-in-Call
returns-in-Call c =
    let a = c.args in
    let told = c.in-Call.is in
    let g : Regular a.rule.calculation Call a.rule.form = subst (λ f. Regular a.rule.calculation f a.rule.form) told c.requires in
    instruction_made a.class a.rvc a.rule.calculation a.rule.form a.found a.w (target (goal.at.returns-in-Call c).Start) a.p.0 a.d (signed 64 a.x)
    a.rule.field Call BothHalves CallPair _ _ _ _
    told
    (record { operand = PcRelative; is = g.0 })
    g.1
    refl
    c.has_form-in-Call.ensures
    (c.call_reaches.ensures (target (goal.at.returns-in-Call c).Start) a.p.0 (relative a.class BothHalves a.rule.calculation (target (goal.at.returns-in-Call c).Start) a.p.0 a.d _ g.0 c.operand_value-v.ensures))
    c.operand_value-v.ensures
    (c.put_field.ensures ∙ ap (put (layout Call) a.w) c.both_halves.ensures)

pub returns-in-Data : goal.returns-in-Data
returns-in-Data c =
    let a = c.args in
    let told = c.in-Data.is in
    let g : Regular a.rule.calculation (Data c.in-Data.width) a.rule.form = subst (λ f. Regular a.rule.calculation f a.rule.form) told c.requires in
    data_made a.class a.rvc a.rule.calculation a.rule.form a.found a.w (target (goal.at.returns-in-Data c).Start) a.p.0 a.d (signed 64 a.x)
    a.rule.field c.in-Data.width _
    told
    g.0
    g.1
    (c.data_word.ensures (bits a.class) a.p.0 a.d c.operand_value-v.ensures)
