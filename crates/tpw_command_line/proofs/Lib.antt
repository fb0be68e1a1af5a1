mod Origins
