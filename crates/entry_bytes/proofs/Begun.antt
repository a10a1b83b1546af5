-- Bytes that begin as those of a map do.
use Rattle.std.proofs.Common.{◌≡◌, ℕ, ◌+◌, ◌-◌, ◌*◌, ◌^◌, ◌<◌, ◌≤◌, List, [], ◌∷◌, ◌++◌, length, take, drop, get_or, refl, sym, subst, ap, ◌∙◌, arith, append_assoc, length-append, lit<, take-append-drop}
use Rattle.std.proofs.lemmas.List.{append_cancel_right, take_all, take_more_same}
use Rattle.gap_code.specs.Code.{code, last_key}
use Rattle.gap_code.specs.Leb.{leb}
use Rattle.gap_code.specs.LebLaws.{leb_some}
use Rattle.entry_bytes.specs.declared.fault.DecodeFault.{DecodeFault}
use Rattle.entry_bytes.specs.Faults.{IsBegun, IsChecksumFault, IsEndFault, least_gap}
use Rattle.entry_bytes.specs.Format.{header, front, checksum, encoding}
use Rattle.entry_bytes.specs.Reads.{AreRead}
use Rattle.entry_bytes.proofs.Codes.{code-push, increasing-push, fits-push}

pub front_rest : (count : ℕ) (entries : List (ℕ × ℕ)) (rest : List ℕ) → front count entries ++ rest ≡ header ++ (leb count ++ (code leb entries ++ rest))
front_rest count entries rest = append_assoc header (leb count ++ code leb entries) rest ∙ ap (λ t. header ++ t) (append_assoc (leb count) (code leb entries) rest)

pub header_long : length header ≡ 6
unfolding header
header_long = refl

pub checksum_long : (bytes : List ℕ) → length (checksum bytes) ≡ 4
unfolding checksum
checksum_long bytes = refl

-- no entry has been read
pub begun_first : (bytes : List ℕ) (count : ℕ) (rest : List ℕ) → bytes ≡ header ++ (leb count ++ rest) → count < 2 ^ 64 → 2 * count + 4 ≤ length rest → IsBegun bytes count [] rest
begun_first bytes count rest is counted room =
    record {
      is = is ∙ sym (front_rest count [] rest);
      counted = counted;
      room = room;
      within = omega arith;
      lawful = record { increasing = tt; fits = tt; counted = lit< tt };
    }

-- an entry has been read
pub begun_next : (bytes : List ℕ) (count : ℕ) (es : List (ℕ × ℕ)) (rest : List ℕ) (gap key val : ℕ) (after : List ℕ)
    → IsBegun bytes count es rest → length es < count → least_gap es ≤ gap → key ≡ last_key 0 es + gap → key < 2 ^ 64 → val < 2 ^ 64 → rest ≡ leb gap ++ (leb val ++ after) → IsBegun bytes count (es ++ (key, val) ∷ []) after
begun_next bytes count es rest gap key val after b left enough key_is key_fits val_fits is =
    let more = es ++ (key, val) ∷ [] in
    let gap_is : key - last_key 0 es ≡ gap = omega arith in
    let bytes_are : code leb more ++ after ≡ code leb es ++ rest =
    ap (λ t. t ++ after) (code-push es 0 key val) ∙ append_assoc (code leb es) (leb (key - last_key 0 es) ++ leb val) after
    ∙ ap (λ t. code leb es ++ t) (append_assoc (leb (key - last_key 0 es)) (leb val) after ∙ ap (λ n. leb n ++ (leb val ++ after)) gap_is ∙ sym is) in
    let longer : length more ≡ length es + 1 = length-append es ((key, val) ∷ []) in
    record {
      is = b.is ∙ front_rest count es rest ∙ ap (λ t. header ++ (leb count ++ t)) (sym bytes_are) ∙ sym (front_rest count more after);
      counted = b.counted;
      room = omega (arith, b.room, ap length bytes_are);
      within = omega arith;
      lawful = record { increasing = increasing-push es gap key val b.lawful.increasing enough key_is; fits = fits-push es key val b.lawful.fits key_fits val_fits; counted = omega (arith, b.counted) };
    }

-- all has been read
pub front_is : (bytes : List ℕ) (at count : ℕ) (es : List (ℕ × ℕ)) → IsBegun bytes count es (drop at bytes) → take at bytes ≡ front count es
front_is bytes at count es b = append_cancel_right (take at bytes) (front count es) (drop at bytes) (take-append-drop at bytes ∙ b.is)

pub encoding_is : (bytes : List ℕ) (at : ℕ) (es : List (ℕ × ℕ)) → IsBegun bytes (length es) es (drop at bytes) → drop at bytes ≡ checksum (take at bytes) → bytes ≡ encoding es
encoding_is bytes at es b is = b.is ∙ ap (λ t. front (length es) es ++ t) (is ∙ ap checksum (front_is bytes at (length es) es b))

pub begun_small : (bytes : List ℕ) (count : ℕ) (es : List (ℕ × ℕ)) (rest : List ℕ) → IsBegun bytes count es rest → 2 * count + 11 ≤ length bytes
begun_small bytes count es rest b =
    omega (arith, b.room, ap length (b.is ∙ front_rest count es rest), length-append header (leb count ++ (code leb es ++ rest)), length-append (leb count) (code leb es ++ rest), header_long, leb_some count)

-- the header, byte by byte
pub header_more : (bytes : List ℕ) (at : ℕ) → at < length bytes → at < 6 → take at bytes ≡ take at header → get_or bytes at 0 ≡ get_or header at 0 → take (at + 1) bytes ≡ take (at + 1) header
header_more bytes at inside within same next = take_more_same bytes header at 0 inside (omega (arith, header_long)) same next

pub header_whole : (bytes : List ℕ) (at : ℕ) → 6 ≤ at → at ≤ 6 → take at bytes ≡ take at header → bytes ≡ header ++ drop 6 bytes
header_whole bytes at h k same =
    let six : at ≡ 6 = omega arith in
    let all : take 6 bytes ≡ header = ap (λ n. take n bytes) (sym six) ∙ same ∙ take_all at header (omega (arith, header_long)) in
    sym (take-append-drop 6 bytes) ∙ ap (λ t. t ++ drop 6 bytes) all

-- all entries have been read
pub begun_all : (bytes : List ℕ) (count after : ℕ) (es : List (ℕ × ℕ)) → AreRead bytes count after es → IsBegun bytes (length es) es (drop after bytes)
begun_all bytes count after es r = subst (λ (n : ℕ). IsBegun bytes n es (drop after bytes)) (sym r.all) r.begun

pub end_fault : (bytes : List ℕ) (count after : ℕ) (es : List (ℕ × ℕ)) (fault : DecodeFault) → AreRead bytes count after es → IsEndFault fault (take after bytes) (drop after bytes) → IsChecksumFault fault bytes
end_fault bytes count after es fault r f =
    let b = begun_all bytes count after es r in
    record { entries = es; rest = drop after bytes; begun = b; next = subst (λ (t : List ℕ). IsEndFault fault t (drop after bytes)) (front_is bytes after (length es) es b) f }

pub header_inside : (bytes : List ℕ) → bytes ≡ header ++ drop 6 bytes → 6 ≤ length bytes
header_inside bytes is = omega (arith, ap length is, length-append header (drop 6 bytes), header_long)

pub all_small : (bytes : List ℕ) (count after : ℕ) (es : List (ℕ × ℕ)) → AreRead bytes count after es → 2 * length es + 11 ≤ length bytes
all_small bytes count after es r = begun_small bytes (length es) es (drop after bytes) (begun_all bytes count after es r)

pub all_encoding : (bytes : List ℕ) (count after : ℕ) (es : List (ℕ × ℕ)) → AreRead bytes count after es → drop after bytes ≡ checksum (take after bytes) → bytes ≡ encoding es
all_encoding bytes count after es r is = encoding_is bytes after es (begun_all bytes count after es r) is
