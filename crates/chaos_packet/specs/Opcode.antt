-- The numbers, kinds and names of opcodes.
use Rattle.std.specs.Prelude.{ℕ, Bool, true, false, ◌||◌, List, Option, Some, None, codes, nat_lt, nat_le, ◌==◌, if◌then◌else◌}
use Rattle.chaos_packet.specs.declared.opcode.Kind.{Kind}
use Rattle.chaos_packet.specs.declared.opcode.Kind.TheVariants.{Rfc, Opn, Cls, Fwd, Ans, Sns, Sts, Los, Lsn, Eof, Unc, Data, Other}

-- ---- The numbers: octal 1 to 7, 11, 12, 14, 15, and 200, the usual one of data

abbrev pub op_rfc : ℕ
op_rfc = 1

abbrev pub op_opn : ℕ
op_opn = 2

abbrev pub op_cls : ℕ
op_cls = 3

abbrev pub op_fwd : ℕ
op_fwd = 4

abbrev pub op_ans : ℕ
op_ans = 5

abbrev pub op_sns : ℕ
op_sns = 6

abbrev pub op_sts : ℕ
op_sts = 7

abbrev pub op_los : ℕ
op_los = 9

abbrev pub op_lsn : ℕ
op_lsn = 10

abbrev pub op_eof : ℕ
op_eof = 12

abbrev pub op_unc : ℕ
op_unc = 13

abbrev pub op_data : ℕ
op_data = 128

-- ---- Kinds

-- Data packets have the opcodes from octal 200 on: 8-bit data to 277, 16-bit data from 300.
abbrev pub is_data : ℕ → Bool
is_data op = nat_le op_data op

-- RFC, OPN, EOF and data are controlled: numbered, and sent again until they are receipted.
abbrev pub is_controlled : ℕ → Bool
is_controlled op = op == op_rfc || op == op_opn || op == op_eof || is_data op

-- the kind of an opcode
abbrev pub kind_of : ℕ → Kind
kind_of op = if op == op_rfc then Rfc
    else (if op == op_opn then Opn
    else (if op == op_cls then Cls
    else (if op == op_fwd then Fwd
    else (if op == op_ans then Ans
    else (if op == op_sns then Sns
    else (if op == op_sts then Sts
    else (if op == op_los then Los
    else (if op == op_lsn then Lsn
    else (if op == op_eof then Eof
    else (if op == op_unc then Unc
    else (if is_data op then Data else Other)))))))))))

abbrev pub is_rfc : Kind → Bool
is_rfc Rfc = true
is_rfc _ = false

-- ---- Names

-- the name that reports show of an opcode of this kind
abbrev pub kind_name : Kind → ℕ → Option (List ℕ)
kind_name Rfc op = Some (codes "RFC")
kind_name Opn op = Some (codes "OPN")
kind_name Cls op = Some (codes "CLS")
kind_name Fwd op = Some (codes "FWD")
kind_name Ans op = Some (codes "ANS")
kind_name Sns op = Some (codes "SNS")
kind_name Sts op = Some (codes "STS")
kind_name Los op = Some (codes "LOS")
kind_name Lsn op = Some (codes "LSN")
kind_name Eof op = Some (codes "EOF")
kind_name Unc op = Some (codes "UNC")
kind_name Data op = if nat_lt op 192 then Some (codes "DAT") else Some (codes "DWD")
kind_name Other op = None

abbrev pub opcode_name : ℕ → Option (List ℕ)
opcode_name op = kind_name (kind_of op) op
