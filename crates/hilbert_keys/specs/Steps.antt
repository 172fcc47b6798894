-- The curve by a table of turns.
use Rattle.std.specs.Prelude.{◌≡◌, ◌<◌, ℕ, ◌+◌, ◌-◌, ◌*◌, ◌/◌, ◌%◌, ◌^◌, List, [], ◌∷◌, slice_index}
use Rattle.cell_space.specs.Cells.{Position, CellData, width_of}
use Rattle.hilbert_keys.specs.Curve.{Turn, along, number_of, turn_of, keys_in, IsCell}

-- for each turn, by 3 · corner + axis, and each child: 8 · the next turn + the child's place
unfoldable pub steps : List ℕ
steps = 8 ∷ 87 ∷ 17 ∷ 142 ∷ 147 ∷ 148 ∷ 18 ∷ 141 ∷ 16 ∷ 131 ∷ 167 ∷ 132 ∷ 1 ∷ 2 ∷ 78 ∷ 77 ∷ 0 ∷ 9 ∷ 91 ∷ 10 ∷ 127 ∷ 158 ∷ 92 ∷ 157 ∷ 63 ∷ 32 ∷ 118 ∷ 41 ∷ 172 ∷ 171 ∷ 117 ∷ 42 ∷ 107 ∷ 40 ∷ 108 ∷ 191 ∷ 26 ∷ 25 ∷ 53 ∷ 54 ∷ 33 ∷ 24 ∷ 34 ∷ 67 ∷ 182 ∷ 103 ∷ 181 ∷ 68 ∷ 65 ∷ 190 ∷ 56 ∷ 39 ∷ 66 ∷ 189 ∷ 99 ∷ 100 ∷ 119 ∷ 180 ∷ 64 ∷ 179 ∷ 30 ∷ 29 ∷ 49 ∷ 50 ∷ 43 ∷ 58 ∷ 48 ∷ 57 ∷ 44 ∷ 109 ∷ 175 ∷ 110 ∷ 166 ∷ 89 ∷ 15 ∷ 80 ∷ 165 ∷ 90 ∷ 124 ∷ 123 ∷ 156 ∷ 143 ∷ 155 ∷ 88 ∷ 5 ∷ 6 ∷ 74 ∷ 73 ∷ 82 ∷ 19 ∷ 81 ∷ 72 ∷ 133 ∷ 20 ∷ 134 ∷ 151 ∷ 51 ∷ 52 ∷ 114 ∷ 45 ∷ 104 ∷ 183 ∷ 113 ∷ 46 ∷ 97 ∷ 98 ∷ 174 ∷ 173 ∷ 112 ∷ 35 ∷ 71 ∷ 36 ∷ 31 ∷ 62 ∷ 188 ∷ 61 ∷ 96 ∷ 105 ∷ 187 ∷ 106 ∷ 76 ∷ 75 ∷ 21 ∷ 138 ∷ 159 ∷ 128 ∷ 22 ∷ 137 ∷ 122 ∷ 121 ∷ 149 ∷ 150 ∷ 11 ∷ 136 ∷ 12 ∷ 95 ∷ 86 ∷ 7 ∷ 85 ∷ 164 ∷ 129 ∷ 120 ∷ 130 ∷ 163 ∷ 162 ∷ 93 ∷ 3 ∷ 4 ∷ 161 ∷ 94 ∷ 152 ∷ 135 ∷ 126 ∷ 125 ∷ 145 ∷ 146 ∷ 23 ∷ 84 ∷ 160 ∷ 83 ∷ 140 ∷ 13 ∷ 79 ∷ 14 ∷ 139 ∷ 154 ∷ 144 ∷ 153 ∷ 69 ∷ 186 ∷ 28 ∷ 27 ∷ 70 ∷ 185 ∷ 111 ∷ 176 ∷ 101 ∷ 102 ∷ 170 ∷ 169 ∷ 60 ∷ 47 ∷ 59 ∷ 184 ∷ 37 ∷ 116 ∷ 38 ∷ 55 ∷ 178 ∷ 115 ∷ 177 ∷ 168 ∷ []

-- for each turn and each place: 8 · the next turn + the child there
unfoldable pub descents : List ℕ
descents = 8 ∷ 18 ∷ 22 ∷ 148 ∷ 149 ∷ 143 ∷ 139 ∷ 81 ∷ 16 ∷ 4 ∷ 5 ∷ 129 ∷ 131 ∷ 79 ∷ 78 ∷ 162 ∷ 0 ∷ 9 ∷ 11 ∷ 90 ∷ 94 ∷ 159 ∷ 157 ∷ 124 ∷ 33 ∷ 43 ∷ 47 ∷ 173 ∷ 172 ∷ 118 ∷ 114 ∷ 56 ∷ 41 ∷ 29 ∷ 28 ∷ 104 ∷ 106 ∷ 54 ∷ 55 ∷ 187 ∷ 25 ∷ 32 ∷ 34 ∷ 67 ∷ 71 ∷ 182 ∷ 180 ∷ 101 ∷ 58 ∷ 64 ∷ 68 ∷ 102 ∷ 103 ∷ 189 ∷ 185 ∷ 35 ∷ 66 ∷ 54 ∷ 55 ∷ 179 ∷ 177 ∷ 29 ∷ 28 ∷ 112 ∷ 50 ∷ 59 ∷ 57 ∷ 40 ∷ 44 ∷ 109 ∷ 111 ∷ 174 ∷ 83 ∷ 89 ∷ 93 ∷ 127 ∷ 126 ∷ 164 ∷ 160 ∷ 10 ∷ 91 ∷ 79 ∷ 78 ∷ 154 ∷ 152 ∷ 4 ∷ 5 ∷ 137 ∷ 75 ∷ 82 ∷ 80 ∷ 17 ∷ 21 ∷ 132 ∷ 134 ∷ 151 ∷ 108 ∷ 118 ∷ 114 ∷ 48 ∷ 49 ∷ 43 ∷ 47 ∷ 181 ∷ 116 ∷ 96 ∷ 97 ∷ 37 ∷ 39 ∷ 171 ∷ 170 ∷ 70 ∷ 100 ∷ 109 ∷ 111 ∷ 190 ∷ 186 ∷ 59 ∷ 57 ∷ 24 ∷ 133 ∷ 143 ∷ 139 ∷ 73 ∷ 72 ∷ 18 ∷ 22 ∷ 156 ∷ 141 ∷ 121 ∷ 120 ∷ 12 ∷ 14 ∷ 146 ∷ 147 ∷ 95 ∷ 125 ∷ 132 ∷ 134 ∷ 167 ∷ 163 ∷ 82 ∷ 80 ∷ 1 ∷ 158 ∷ 164 ∷ 160 ∷ 2 ∷ 3 ∷ 89 ∷ 93 ∷ 135 ∷ 166 ∷ 146 ∷ 147 ∷ 87 ∷ 85 ∷ 121 ∷ 120 ∷ 20 ∷ 150 ∷ 159 ∷ 157 ∷ 140 ∷ 136 ∷ 9 ∷ 11 ∷ 74 ∷ 183 ∷ 189 ∷ 185 ∷ 27 ∷ 26 ∷ 64 ∷ 68 ∷ 110 ∷ 191 ∷ 171 ∷ 170 ∷ 62 ∷ 60 ∷ 96 ∷ 97 ∷ 45 ∷ 175 ∷ 182 ∷ 180 ∷ 117 ∷ 113 ∷ 32 ∷ 34 ∷ 51 ∷ []

-- the children that two bits of z, of y and of x choose at two levels
abbrev pub upper_child : ℕ → ℕ
upper_child bits = 4 * (bits / 32) + (2 * (bits / 8 % 2) + bits / 2 % 2)

abbrev pub lower_child : ℕ → ℕ
lower_child bits = 4 * (bits / 16 % 2) + (2 * (bits / 4 % 2) + bits % 2)

-- of the entries of two steps: 64 · the turn after both + the two places
abbrev pub after : ℕ → ℕ → ℕ
after first second = second / 8 * 64 + (first % 8 * 8 + second % 8)

-- the same for a turn and two bits of each coordinate
unfoldable pub two_steps : ℕ → ℕ → ℕ
two_steps turn bits =
    let first = slice_index steps (turn * 8 + upper_child bits) in
    after first (slice_index steps (first / 8 * 8 + lower_child bits))

-- the pairs of bits of a byte, six bits apart
abbrev pub spread : ℕ → ℕ
spread byte = byte / 64 * 262144 + (byte / 16 % 4 * 4096 + (byte / 4 % 4 * 64 + byte % 4))

-- the bits of a coordinate, and of a position, that choose the children at eight levels from one on
abbrev pub byte_at : ℕ → ℕ → ℕ
byte_at n l = n / 2 ^ (24 - l) % 256

abbrev pub eight_levels : Position → ℕ → ℕ
eight_levels p l = 16 * spread (byte_at p.z l) + (4 * spread (byte_at p.y l) + spread (byte_at p.x l))

-- a turn by its number
abbrev pub turn_numbered : ℕ → Turn
turn_numbered n = record { corner = n / 3; axis = n % 3 }

-- at the cell of a level around a position the curve has come to this number, and lies by the turn of this number
pub record IsAt (l : ℕ) (p : Position) (n turn : ℕ) : Type 0 where
  pub counted : n ≡ (along l p).number
  pub lies : turn_numbered turn ≡ (along l p).turn
  pub known : turn < 24
  pub few : n < 8 ^ l

-- the first digits of a key, as many as the level, lead to this cell, in which the curve lies by the turn of this number
pub record IsOnWay (key level turn : ℕ) (c : CellData) : Type 0 where
  pub cell : IsCell c
  pub there : c.level ≡ level
  pub counted : number_of c ≡ key / keys_in level
  pub lies : turn_numbered turn ≡ turn_of c
  pub known : turn < 24

-- the cell of a level and a corner of three numbers
abbrev pub seen : ℕ → List ℕ → CellData
seen l xs = record { level = l; x = slice_index xs 0 / width_of l; y = slice_index xs 1 / width_of l; z = slice_index xs 2 / width_of l }
